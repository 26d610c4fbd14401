use Rattle.std.proofs.Common.{ap, arith, List}
use Rattle.std.proofs.lemmas.List.Sums.{sum_by_more}
use Rattle.jx_ndjson.specs.WholeLines.{WholeLinesValue}
use Rattle.jx_serve.proofs.line_table.blocks_before.Goals as goal

pub loop-count-preserved : goal.loop-count-preserved
loop-count-preserved c =
    let blocks : List WholeLinesValue = c.args.blocks.now in
    let here = ap (λ (b : WholeLinesValue). b.len) c.index-blocks-count.is in
    let more = sum_by_more (λ (b : WholeLinesValue). b.len) blocks c.loop-count.count c.index-blocks-count.result c.loop-count-test.true in
    let long = c.len-len.ensures in
    let before = c.loop-count.invariant in
    omega (arith, here, more, long, before)
