use Rattle.std.proofs.Common.{◌≡◌, ◌++◌, map, take, drop}
use Rattle.jx_reduce.specs.Form.{Form}
use Rattle.jx_reduce.specs.Reduced.{depth_of, form_in}
use Rattle.jx_reduce.specs.inside.Follow.{followed}
use Rattle.jx_reduce.proofs.reducing.reductions.Reductions.extend_lefts.Given as goal

-- the first of them have gone on
abbrev pub invariant-loop-left : goal.invariant-loop-left
invariant-loop-left l = record {
  depths : map depth_of l.left-items ≡ map depth_of l.initial.left-items;
  forms : map form_in l.left-items
      ≡ map (λ (f : Form). followed l.self.depth f l.self) (take l.left-index (map form_in l.initial.left-items)) ++ drop l.left-index (map form_in l.initial.left-items);
  rest : drop l.left-index l.left-items ≡ drop l.left-index l.initial.left-items;
}
