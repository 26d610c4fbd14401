-- The rest of a part, which is read only from the states in which transitions of its beginning end.
use Rattle.std.specs.Prelude.{◌≡◌, ℕ, ◌+◌, ◌<◌, ◌≤◌, List, ◌∷◌, length, HoldsAt, Some, slice_get}
use Rattle.jx_lex.specs.declared.alphabet.lex_exit.LexExit.TheVariants as exit
use Rattle.jx_lex.specs.declared.alphabet.mark.Mark.{Mark}
use Rattle.jx_lex.specs.declared.alphabet.state.LexState.{LexState}
use Rattle.jx_lex.specs.Lex.{LexExit}
use Rattle.jx_lex.specs.Ordinal.{ordinal}
use Rattle.jx_reduce.specs.declared.table.expect.Expect.{Expect}
use Rattle.jx_reduce.specs.declared.table.holder.Holder.{Holder}
use Rattle.jx_reduce.specs.Reducer.{ReducerValue, HasReduced}
use Rattle.jx_reduce.specs.Structure.{StructureValue}
use Rattle.jx_run.specs.declared.runs.transition.Transition.{Transition}
use Rattle.jx_run.specs.OutcomeRun.{OutcomeRunValue, exit_at, outcome, outcome_of}
use Rattle.jx_run.specs.Reading.{TextReading, read}

-- these are the outcomes of reading bytes, which stand from an offset on, from a state
abbrev pub AreRead : ℕ → ℕ → List ℕ → LexState → (Expect → List Holder → TextReading) → Type 0
AreRead limit start bytes s outcomes = (expect : Expect) (holders : List Holder) → length holders ≤ limit → outcomes expect holders ≡ read limit s expect holders start bytes

-- the right has the outcomes of reading these bytes from each state in which a transition of the left ends; from the other states,
-- to which nothing leads, it may have any
pub record IsRestOf (left : OutcomeRunValue) (bytes : List ℕ) (right : OutcomeRunValue) : Type 0 where
  pub long : right.end ≡ right.start + length bytes
  pub outcomes : (s t : LexState) → exit_at left s ≡ LexExit.state t → AreRead right.depth right.start bytes t (outcome right t)

-- one of the transitions ends in this state
abbrev pub Reaches : List Transition → LexState → Type 0
Reaches transitions s = (k : ℕ) × (k < length transitions) × HoldsAt (λ (w : Transition). w.exit ≡ exit.State s) transitions k

-- the transition has the outcomes of reading
pub record IsReadTransition (limit start : ℕ) (bytes : List ℕ) (structures : List StructureValue) (s : LexState) (w : Transition) : Type 0 where
  pub form : StructureValue
  pub at : slice_get structures w.structure ≡ Some form
  pub reads : AreRead limit start bytes s (outcome_of (record { exit = w.exit; marks = form }))

-- so has the one of each state that was reached
abbrev pub AreReadTransitions : ℕ → ℕ → List ℕ → List Transition → List StructureValue → List Transition → LexState → Type 0
AreReadTransitions limit start bytes reached structures transitions s = Reaches reached s
    → (w : Transition) × (slice_get transitions (ordinal s) ≡ Some w) × IsReadTransition limit start bytes structures s w

-- the tokens of a scan that a reducer has seen; the ends are ignored, but that they begin with the depth, which therefore stays
pub record HasTaken (marks : List Mark) (ends : List ℕ) (reducer : ReducerValue) : Type 0 where
  pub reduced : HasReduced marks reducer
  pub rest : List ℕ
  pub depth : ends ≡ reducer.depth ∷ rest
