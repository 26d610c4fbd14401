use Rattle.std.proofs.Common.{length, sym, take, ◌∙◌, arith}
use Rattle.jx_run.specs.Elements.{is_separator}
use Rattle.jx_ndjson.proofs.Cuts.{before-alike, none-found-before}
use Rattle.jx_ndjson.proofs.element_reader.ElementReader.feed.Goals as goal

pub go_on-requires-clause-in_the_element : goal.go_on-requires-clause-in_the_element
go_on-requires-clause-in_the_element c =
    let all = length c.args.slice.now in
    sym (before-alike (take all c.args.slice.now)) ∙ none-found-before is_separator c.args.slice.now all (omega arith) (λ k low m. c.in-None.ensures k (omega arith) low m)

pub go_on-requires-in-Some-clause-in_the_element :
    goal.go_on-requires-in-Some-clause-in_the_element
go_on-requires-in-Some-clause-in_the_element c =
    let high = c.in-Some.ensures.0.high in
    sym (before-alike (take c.in-Some.at c.args.slice.now)) ∙ none-found-before is_separator c.args.slice.now c.in-Some.at (omega (arith, high)) (λ j low m. c.in-Some.ensures.0.before j (omega arith) low m)
