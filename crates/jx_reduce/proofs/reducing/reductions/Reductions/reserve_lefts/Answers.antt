use Rattle.std.proofs.Common.{◌<◌, length, ◌∙◌, arith}
use Rattle.jx_reduce.specs.Reduced.{depth_of, form_in}
use Rattle.jx_reduce.specs.inside.Follow.{IsReady}
use Rattle.jx_reduce.specs.declared.reducing.reduced.Reduced.{Reduced}
use Rattle.jx_reduce.proofs.EachInPlace.{map_kept, such_more}
use Rattle.jx_reduce.proofs.reducing.reductions.Reductions.reserve_lefts.Goals as goal

pub returns-in_err-reserve_left-clause-depths : goal.returns-in_err-reserve_left-clause-depths
returns-in_err-reserve_left-clause-depths c =
    let low : c.loop-left.left-index < length c.loop-left.left-items = omega arith in
    map_kept depth_of c.loop-left.left-items c.loop-left.left-index c.left-item.result c.reserve_left.new.left low c.reserve_left.ensures.depth
    ∙ c.loop-left.invariant.depths

pub returns-in_err-reserve_left-clause-same : goal.returns-in_err-reserve_left-clause-same
returns-in_err-reserve_left-clause-same c =
    let low : c.loop-left.left-index < length c.loop-left.left-items = omega arith in
    map_kept form_in c.loop-left.left-items c.loop-left.left-index c.left-item.result c.reserve_left.new.left low c.reserve_left.ensures.same
    ∙ c.loop-left.invariant.same

pub loop-left-preserved : goal.loop-left-preserved
loop-left-preserved c =
    let low : c.loop-left.left-index < length c.loop-left.left-items = omega arith in
    record {
      depths =
          map_kept depth_of c.loop-left.left-items c.loop-left.left-index c.left-item.result c.reserve_left.new.left low c.reserve_left.ensures.depth
          ∙ c.loop-left.invariant.depths;
      same =
          map_kept form_in c.loop-left.left-items c.loop-left.left-index c.left-item.result c.reserve_left.new.left low c.reserve_left.ensures.same
          ∙ c.loop-left.invariant.same;
      ready = such_more (λ (l : Reduced). IsReady l c.args.self.now) c.loop-left.left-items c.loop-left.left-index c.reserve_left.new.left low
          c.in_ok-reserve_left.ensures.ok c.loop-left.invariant.ready;
    }
