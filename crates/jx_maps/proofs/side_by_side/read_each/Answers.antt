use Rattle.std.proofs.Common.{◌<◌, length, set, ap, sym, arith, ◌∙◌}
use Rattle.std.proofs.lemmas.List.Edits.{map_over_more}
use Rattle.jx_maps.specs.Follow.{SegmentValue}
use Rattle.jx_maps.specs.inside.Step.{read_segment}
use Rattle.jx_maps.proofs.side_by_side.read_each.Goals as goal

pub loop-i-preserved : goal.loop-i-preserved
loop-i-preserved c =
    let low : c.loop-i.i < length c.args.segments.now = omega arith in
    let p = c.index-segments-i.result in
    ap (λ (x : SegmentValue). set c.loop-i.segments c.loop-i.i x) (c.in_ok-read.ensures ∙ ap (read_segment c.args.at c.args.byte) (sym c.index-segments-i.is))
    ∙ map_over_more (read_segment c.args.at c.args.byte) c.args.segments.now c.loop-i.segments c.loop-i.i p low c.loop-i.invariant c.index-segments-i.is
