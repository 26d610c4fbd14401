use Rattle.std.proofs.Common.{length, arith}
use Rattle.jx_ndjson.specs.Lines.{is_line_feed}
use Rattle.jx_ndjson.proofs.Cuts.{none-found-before}
use Rattle.jx_line_values.proofs.Cuts.{with_feed}
use Rattle.jx_line_values.proofs.rows_part.RowsPart.add_step.Goals as goal

pub add_line-requires-clause-line : goal.add_line-requires-clause-line
add_line-requires-clause-line c =
    let high = c.in-Some.ensures.0.high in
    none-found-before is_line_feed c.args.slice.now c.in-Some.at (omega (arith, high)) (λ j low m. c.in-Some.ensures.0.before j (omega arith) low m)

pub add_line-requires-clause-ended : goal.add_line-requires-clause-ended
add_line-requires-clause-ended c = λ bytes. with_feed bytes c.args.slice.now c.in-Some.at c.in-Some.ensures.0.high c.in-Some.ensures.1
