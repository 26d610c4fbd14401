use Rattle.std.proofs.Common.{◌≡◌, ◌++◌, map, take, drop}
use Rattle.jx_reduce.specs.Reduced.{depth_of, form_in}
use Rattle.jx_reduce.specs.inside.Shifted.{shifted_form}
use Rattle.jx_reduce.proofs.reducing.reductions.Reductions.shifted.Given as goal

-- the first of them are moved
abbrev pub invariant-loop-form : goal.invariant-loop-form
invariant-loop-form l = record {
  depths : map depth_of l.form-items ≡ map depth_of l.initial.form-items;
  forms : map form_in l.form-items ≡ map (shifted_form l.by) (take l.form-index (map form_in l.initial.form-items)) ++ drop l.form-index (map form_in l.initial.form-items);
}
