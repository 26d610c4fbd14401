-- The state of a reducer.
use Rattle.std.specs.Prelude.{◌≡◌, ◌<◌, ◌≤◌, ℕ, Option, true, vec_capacity}
use Rattle.jx_reduce.specs.Levels.{form_of}
use Rattle.jx_reduce.specs.Reducer.{ReducerValue, past}
use Rattle.jx_reduce.specs.Structure.{AreIn}
use Rattle.jx_reduce.specs.inside.Quiet.{AreLimits}
use Rattle.jx_reduce.specs.inside.Structures.{of_making, IsSound, Waits}
use Rattle.jx_reduce.specs.declared.forms.quiet.Limits.{Limits}
use Rattle.jx_reduce.specs.declared.reducing.reducer.Reducer.TheInside.{Inside}
use Rattle.jx_reduce.specs.declared.forms.structure.Making.{Making}

abbrev pub reducer_of : Inside → ReducerValue
reducer_of a = record { depth = a.depth; structure = of_making a.depth a.making; last = a.last; rising = a.rising }

-- the structure that is made so far is sound, its offsets are no greater than the last, and the limits are those of its form
pub record IsReady (d : ℕ) (p : Making) (l : Limits) (last : Option ℕ) : Type 0 where
  pub sound : IsSound (of_making d p)
  pub below : AreIn (λ p. p < past last) (of_making d p)
  pub waits : Waits p
  pub limits : AreLimits d (form_of p.levels) l

-- quiet tokens take no memory
pub record IsReducing (a : Inside) : Type 0 where
  pub room : a.limits.most ≤ vec_capacity a.making.levels.opens
  pub ready : a.rising ≡ true → IsReady a.depth a.making a.limits a.last
