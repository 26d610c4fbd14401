-- A run that keeps outcomes alone as contracts see it, and when a run is the summary of bytes.
use Rattle.std.specs.Prelude.{◌≡◌, ℕ, ◌+◌, ◌<◌, ◌≤◌, List, length, Option, None, Some, All, slice_get}
use Rattle.jx_lex.specs.declared.alphabet.state.LexState.{LexState}
use Rattle.jx_summary.specs.declared.span.Span.{Span}
use Rattle.jx_lex.specs.declared.alphabet.lex_exit.LexExit.{LexExit}
use Rattle.jx_lex.specs.Lex as lex
use Rattle.jx_lex.specs.Ordinal.{ordinal}
use Rattle.jx_lex.specs.Exit.{exit_of}
use Rattle.jx_reduce.specs.declared.table.expect.Expect.{Expect}
use Rattle.jx_reduce.specs.declared.table.holder.Holder.{Holder}
use Rattle.jx_reduce.specs.Structure.{StructureValue, answer, SpansIn}
use Rattle.jx_run.specs.declared.runs.transition.Transition.{Transition}
use Rattle.jx_run.specs.Reading.{TextReading, stopped, at_exit, and_then, read}
use Rattle.jx_run.specs.Tree.{span}

-- one transition for each state, in the order of the states, and the structures of their tokens; transitions may have
-- one structure
pub record OutcomeRunValue : Type 0 where
  pub depth : ℕ
  pub start : ℕ
  pub end : ℕ
  pub transitions : List Transition
  pub structures : List StructureValue

-- the result of reading from one state: where it ends, and the reading to which its tokens lead
pub record Entries : Type 0 where
  pub exit : LexExit
  pub marks : StructureValue

abbrev pub outcome_span : OutcomeRunValue → Span
outcome_span run = span run.start run.end

abbrev pub with_exit : LexExit → Option StructureValue → Option Entries
with_exit exit None = None
with_exit exit (Some f) = Some (record { exit = exit; marks = f })

abbrev pub entries_of : List StructureValue → Option Transition → Option Entries
entries_of structures None = None
entries_of structures (Some w) = with_exit w.exit (slice_get structures w.structure)

-- the entries of a state
abbrev pub entries_at : OutcomeRunValue → LexState → Option Entries
entries_at run s = entries_of run.structures (slice_get run.transitions (ordinal s))

-- the reading from an expectation, over open containers, innermost first
abbrev pub outcome_of : Entries → Expect → List Holder → TextReading
outcome_of e expect holders = at_exit (exit_of e.exit) (answer e.marks expect holders)

abbrev pub outcome_in : Option Entries → Expect → List Holder → TextReading
outcome_in None expect holders = stopped 0
outcome_in (Some e) expect holders = outcome_of e expect holders

-- where reading from a state ends
abbrev pub exit_in : Option Entries → lex.LexExit
exit_in None = lex.LexExit.fault 0
exit_in (Some e) = exit_of e.exit

abbrev pub exit_at : OutcomeRunValue → LexState → lex.LexExit
exit_at run s = exit_in (entries_at run s)

abbrev pub outcome : OutcomeRunValue → LexState → Expect → List Holder → TextReading
outcome run s = outcome_in (entries_at run s)

-- the run is the summary of these bytes: from each state, each expectation and every list of open containers within the
-- depth the outcome is that of reading
pub record IsOutcomeRun (bytes : List ℕ) (run : OutcomeRunValue) : Type 0 where
  pub long : run.end ≡ run.start + length bytes
  pub outcomes : (s : LexState) (expect : Expect) (holders : List Holder) → length holders ≤ run.depth
      → outcome run s expect holders ≡ read run.depth s expect holders run.start bytes

-- the depth of a structure, and the span in which its offsets lie
pub record IsFormWithin (limit start end : ℕ) (f : StructureValue) : Type 0 where
  pub depth : f.depth ≡ limit
  pub offsets : SpansIn start end f

-- the invariant of each run
pub record IsWellFormed (run : OutcomeRunValue) : Type 0 where
  pub order : run.start ≤ run.end
  pub all : length run.transitions ≡ 32
  pub few : length run.structures ≤ 32
  pub there : All (λ (w : Transition). w.structure < length run.structures) run.transitions
  pub within : All (IsFormWithin run.depth run.start run.end) run.structures

-- a run over so many bytes from offset 0 on, of its parts
abbrev pub run_of_parts : ℕ → ℕ → List Transition → List StructureValue → OutcomeRunValue
run_of_parts depth end transitions structures = record { depth = depth; start = 0; end = end; transitions = transitions; structures = structures }

-- a transition leads to each of so many structures
abbrev pub AreUsed : List Transition → ℕ → Type 0
AreUsed transitions count = (n : ℕ) → n < count → (k : ℕ) × (w : Transition) × (slice_get transitions k ≡ Some w) × (w.structure ≡ n)

-- the outcomes are those of the left, and from where it went those of the right
abbrev pub GoesOn : ℕ → Entries → OutcomeRunValue → Entries → Type 0
GoesOn limit left right joined = (expect : Expect) (holders : List Holder) → length holders ≤ limit
    → outcome_of joined expect holders ≡ and_then (outcome_of left expect holders) (outcome right)
