use Rattle.std.proofs.Common.{◌≡◌, ℕ, ◌<◌, get_or, map}
use Rattle.jx_reduce.specs.Reduced.{depth_of, form_in}
use Rattle.jx_reduce.specs.inside.Follow.{IsReady}
use Rattle.jx_reduce.specs.declared.reducing.reduced.Reduced.{Reduced}
use Rattle.jx_reduce.proofs.reducing.reductions.Reductions.reserve_lefts.Given as goal

-- there is room in the first of them
abbrev pub invariant-loop-left : goal.invariant-loop-left
invariant-loop-left l = record {
  depths : map depth_of l.left-items ≡ map depth_of l.initial.left-items;
  same : map form_in l.left-items ≡ map form_in l.initial.left-items;
  ready : (i : ℕ) (d : Reduced) → i < l.left-index → IsReady (get_or l.left-items i d) l.self;
}
