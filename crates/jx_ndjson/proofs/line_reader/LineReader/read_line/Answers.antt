use Rattle.std.proofs.Common.{arith, length}
use Rattle.jx_ndjson.specs.Lines.{is_line_feed}
use Rattle.jx_ndjson.proofs.Cuts.{none-found-before}
use Rattle.jx_ndjson.proofs.line_reader.LineReader.read_line.Goals as goal

pub go_on-requires-clause-on_the_line : goal.go_on-requires-clause-on_the_line
go_on-requires-clause-on_the_line c =
    let all = length c.args.slice.now in
    none-found-before is_line_feed c.args.slice.now all (omega arith) (λ k low m. c.in-None.ensures k (omega arith) low m)

pub go_on-requires-in-Some-clause-on_the_line : goal.go_on-requires-in-Some-clause-on_the_line
go_on-requires-in-Some-clause-on_the_line c =
    let high = c.in-Some.ensures.0.high in
    none-found-before is_line_feed c.args.slice.now c.in-Some.at (omega (arith, high)) (λ j low m. c.in-Some.ensures.0.before j (omega arith) low m)
