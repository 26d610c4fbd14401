use Rattle.std.proofs.Common.{◌≤◌, length, arith, append-nil}
use Rattle.std.proofs.lemmas.List.{take_all, drop_all}
use Rattle.jx_maps.specs.Follow.{linked_segments}
use Rattle.jx_maps.proofs.Closing.{link-start}
use Rattle.jx_maps.proofs.Joined.{link-more, length-linked}
use Rattle.jx_maps.proofs.segment.link_segments.Goals as goal

pub loop-i-init : goal.loop-i-init
loop-i-init c = link-start c.args.heads.now c.args.closed c.args.segments.now c.requires.all_closed

pub loop-i-preserved : goal.loop-i-preserved
loop-i-preserved c =
    let e = link-more c.args.heads.now c.args.segments.now c.loop-i.segments c.loop-i.i c.index-segments-i.result c.loop-i-test.true c.loop-i.invariant c.index-segments-i.is in
    cc

pub returns : goal.returns
returns c =
    let n : length (linked_segments c.args.heads.now c.args.segments.now) ≤ c.loop-i.i = omega (arith, length-linked c.args.heads.now c.args.segments.now) in
    let a = take_all c.loop-i.i (linked_segments c.args.heads.now c.args.segments.now) n in
    let b = drop_all c.loop-i.i c.args.segments.now c.loop-i-test.false in
    rw (c.loop-i.invariant, a, b) (append-nil _)
