-- The structures of the joined bytes of two runs, each made of one of the left and perhaps one of the right.
use Rattle.std.specs.Prelude.{◌≡◌, ℕ, ◌<◌, ◌≤◌, All, List, [], ◌∷◌, length, Option, None, Some, slice_get}
use Rattle.jx_lex.specs.declared.alphabet.lex_exit.LexExit.{LexExit}
use Rattle.jx_lex.specs.declared.alphabet.state.LexState.{LexState}
use Rattle.jx_lex.specs.Ordinal.{all_states}
use Rattle.jx_reduce.specs.Structure.{StructureValue, IsJoin, SpansIn}
use Rattle.jx_run.specs.declared.runs.joins.Pair.{Pair}
use Rattle.jx_run.specs.declared.runs.transition.Transition.{Transition}
use Rattle.jx_run.specs.OutcomeRun.{OutcomeRunValue, Entries, entries_at, GoesOn, IsFormWithin}

-- the tokens of one go on with those of the other
pub record GoesOnWith (a b f : StructureValue) : Type 0 where
  pub joined : IsJoin a b f
  pub depth : f.depth ≡ a.depth
  pub offsets : (low high : ℕ) → SpansIn low high a → SpansIn low high b → SpansIn low high f

abbrev pub IsOnward : List StructureValue → Option ℕ → StructureValue → StructureValue → Type 0
IsOnward structures None a f = f ≡ a
IsOnward structures (Some r) a f = (b : StructureValue) → slice_get structures r ≡ Some b → GoesOnWith a b f

-- it is made of the structures of a pair
abbrev pub IsMade : OutcomeRunValue → OutcomeRunValue → Pair → StructureValue → Type 0
IsMade left right pair f = (a : StructureValue) → slice_get left.structures pair.left ≡ Some a → IsOnward right.structures pair.right a f

abbrev pub IsIn : List StructureValue → Option ℕ → Type 0
IsIn structures None = Unit {0}
IsIn structures (Some r) = r < length structures

-- both runs have the structures of the pair
pub record IsThere (left right : OutcomeRunValue) (pair : Pair) : Type 0 where
  pub left_is : pair.left < length left.structures
  pub right_is : IsIn right.structures pair.right

-- the structure in this place is made of the pair
pub record IsMadeAt (left right : OutcomeRunValue) (structures : List StructureValue) (pair : Pair) (i : ℕ) : Type 0 where
  pub form : StructureValue
  pub at : slice_get structures i ≡ Some form
  pub made : IsMade left right pair form

pub record AreMade (left right : OutcomeRunValue) (pairs : List Pair) (structures : List StructureValue) : Type 0 where
  pub all : length pairs ≡ length structures
  pub each : (i : ℕ) (pair : Pair) → slice_get pairs i ≡ Some pair → IsMadeAt left right structures pair i

-- there are those and perhaps more
abbrev pub IsAbove : List StructureValue → List StructureValue → Type 0
IsAbove olds news = (i : ℕ) (f : StructureValue) → slice_get olds i ≡ Some f → slice_get news i ≡ Some f

-- from this state reading goes on to this exit through the structures of the pair
abbrev pub GoesThrough : OutcomeRunValue → OutcomeRunValue → LexState → LexExit → Pair → Type 0
GoesThrough left right s exit pair = (e : Entries) (f : StructureValue) → entries_at left s ≡ Some e → f.depth ≡ left.depth → IsMade left right pair f
    → GoesOn left.depth e right (record { exit = exit; marks = f })

-- the transition has what reading from this state leads to in the joined bytes
pub record IsJoinedTransition (left right : OutcomeRunValue) (structures : List StructureValue) (s : LexState) (w : Transition) : Type 0 where
  pub form : StructureValue
  pub at : slice_get structures w.structure ≡ Some form
  pub goes : (e : Entries) → entries_at left s ≡ Some e → GoesOn left.depth e right (record { exit = w.exit; marks = form })

-- so it is with those from these states, in order
abbrev pub AreJoinedTransitions : OutcomeRunValue → OutcomeRunValue → List StructureValue → List LexState → List Transition → Type 0
AreJoinedTransitions left right fs [] [] = Unit {0}
AreJoinedTransitions left right fs [] (w ∷ ws) = ⊥
AreJoinedTransitions left right fs (s ∷ ss) [] = ⊥
AreJoinedTransitions left right fs (s ∷ ss) (w ∷ ws) = IsJoinedTransition left right fs s w × AreJoinedTransitions left right fs ss ws

-- the transitions of the joined bytes, and their structures
pub record AreJoined (left right : OutcomeRunValue) (transitions : List Transition) (structures : List StructureValue) : Type 0 where
  pub each : AreJoinedTransitions left right structures all_states transitions
  pub few : length structures ≤ 32
  pub within : All (IsFormWithin left.depth left.start right.end) structures
