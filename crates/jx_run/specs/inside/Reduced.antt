-- Structures of the tokens of tracks.
use Rattle.std.specs.Prelude.{◌≡◌, ℕ, ◌≤◌, ◌<◌, ◌+◌, List, [], ◌∷◌, All, Option, Some, length, flat_map, slice_get}
use Rattle.jx_maps.specs.declared.link.Link.TheVariants.{Ahead}
use Rattle.jx_lex.specs.declared.alphabet.mark.Mark.{Mark}
use Rattle.jx_lex.specs.declared.alphabet.state.LexState.{LexState}
use Rattle.jx_maps.specs.Follow.{SegmentValue}
use Rattle.jx_lex.specs.Lex.{Track}
use Rattle.jx_maps.specs.Map.{Map, track}
use Rattle.jx_lex.specs.Exit.{exit_of}
use Rattle.jx_maps.specs.View.{marks_at, path_from}
use Rattle.jx_reduce.specs.Offsets.{EachIn, RisingFrom}
use Rattle.jx_reduce.specs.Structure.{StructureValue, IsOf, SpansIn}
use Rattle.jx_run.specs.declared.runs.reduce.Lone.{Lone}
use Rattle.jx_run.specs.declared.runs.transition.Transition.{Transition}
use Rattle.jx_run.specs.OutcomeRun.{IsFormWithin}

-- the structure of these tokens, which keeps no offset but theirs
pub record IsReduced (limit : ℕ) (marks : List Mark) (f : StructureValue) : Type 0 where
  pub depth : f.depth ≡ limit
  pub reads : IsOf marks f
  pub offsets : (low high : ℕ) → EachIn (λ m. (low ≤ m.at) × (m.at < high)) marks → SpansIn low high f

-- those that are there are the structures of their segments
abbrev pub AreReduced : ℕ → List SegmentValue → List (Option StructureValue) → Type 0
AreReduced limit ps slots = (n : ℕ) (f : StructureValue) → slice_get slots n ≡ Some (Some f) → IsReduced limit (marks_at ps n) f

-- the structure in this place is that of these tokens
pub record IsAt (limit : ℕ) (marks : List Mark) (structures : List StructureValue) (i : ℕ) : Type 0 where
  pub form : StructureValue
  pub at : slice_get structures i ≡ Some form
  pub of : IsReduced limit marks form

-- the structure in this place is that of this token alone
abbrev pub IsLoneIn : ℕ → List StructureValue → Lone → Type 0
IsLoneIn limit structures lone = IsAt limit (lone.mark ∷ []) structures lone.number

-- the transition of a track
pub record IsTransitionOf (limit : ℕ) (structures : List StructureValue) (t : Track) (w : Transition) : Type 0 where
  pub exit : exit_of w.exit ≡ t.exit
  pub marks : IsAt limit t.marks structures w.structure

-- those of the tracks from these states, in order
abbrev pub AreTransitionsOf : ℕ → Map → List StructureValue → List LexState → List Transition → Type 0
AreTransitionsOf limit m fs [] [] = Unit {0}
AreTransitionsOf limit m fs [] (w ∷ ws) = ⊥
AreTransitionsOf limit m fs (s ∷ ss) [] = ⊥
AreTransitionsOf limit m fs (s ∷ ss) (w ∷ ws) = IsTransitionOf limit fs (track m s) w × AreTransitionsOf limit m fs ss ws

-- the path that begins with the segment of this number; there is none after the last
abbrev pub path_at : List SegmentValue → ℕ → List ℕ
path_at ps n = path_from 0 ps (Ahead n)

-- by the number with which a path begins, the place of its structure, where it was made
abbrev pub AreNumbered : ℕ → List SegmentValue → List (Option ℕ) → List StructureValue → Type 0
AreNumbered limit ps numbers structures = (n i : ℕ) → slice_get numbers n ≡ Some (Some i) → IsAt limit (flat_map (marks_at ps) (path_at ps n)) structures i

-- the structures that were made of a map so far, of segments and of paths
pub record ArePaths (limit : ℕ) (m : Map) (slots : List (Option StructureValue)) (numbers : List (Option ℕ)) (structures : List StructureValue) : Type 0 where
  pub slots_all : length slots ≡ length m.segments
  pub numbers_all : length numbers ≡ length m.segments + 1
  pub slots_are : AreReduced limit m.segments slots
  pub numbers_are : AreNumbered limit m.segments numbers structures
  pub within : All (IsFormWithin limit m.start m.end) structures

-- the tokens of each track rise
abbrev pub AreRising : Map → Type 0
AreRising m = (s : LexState) → RisingFrom 0 (track m s).marks

-- and lie where its bytes do
abbrev pub AreInside : Map → Type 0
AreInside m = (s : LexState) → EachIn (λ (k : Mark). (m.start ≤ k.at) × (k.at < m.end)) (track m s).marks
