use Rattle.std.proofs.Common.{◌≡◌, ℕ, List, ◌++◌, ◌∙◌, ap, subst}
use Rattle.std.specs.Prelude.{OnErr}
use Rattle.jx_ends.specs.Ends.{AppendsBeginning}
use Rattle.jx_words.specs.inside.Lines.{verdict_line}
use Rattle.jx_words.proofs.verdict_words.write_line.Goals as goal

pub returns-clause-beginning : goal.returns-clause-beginning
returns-clause-beginning g c = λ is.
    let contents = g.W.Sink.contents in
    let old = contents c.args.writer.now in
    let new = contents c.write_whole.new.writer in
    let beginning : AppendsBeginning old new c.deref.result.now =
    subst (λ r. OnErr r (AppendsBeginning old new c.deref.result.now)) is c.write_whole.ensures.err in
    let words : c.push_verdict.new.out.items ≡ verdict_line c.args.verdict =
    c.push_verdict.ensures.words ∙ ap (λ (x : List ℕ). x ++ verdict_line c.args.verdict) c.in_ok-line.ensures.items in
    subst (λ (x : List ℕ). AppendsBeginning old new x) words (subst (λ (x : List ℕ). AppendsBeginning old new x) c.deref.ensures.value beginning)
