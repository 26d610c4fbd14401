-- A text run as contracts see it, and when a run is the summary of bytes.
use Rattle.std.specs.Prelude.{◌≡◌, ℕ, ◌+◌, ◌≤◌, List, length}
use Rattle.jx_lex.specs.declared.alphabet.state.LexState.{LexState}
use Rattle.jx_summary.specs.declared.span.Span.{Span}
use Rattle.jx_lex.specs.Lex.{lex}
use Rattle.jx_maps.specs.Map.{Map, track}
use Rattle.jx_reduce.specs.declared.table.expect.Expect.{Expect}
use Rattle.jx_reduce.specs.declared.table.holder.Holder.{Holder}
use Rattle.jx_reduce.specs.Structure.{StructureValue}
use Rattle.jx_run.specs.declared.runs.transition.Transition.{Transition}
use Rattle.jx_run.specs.OutcomeRun.{OutcomeRunValue, outcome}
use Rattle.jx_run.specs.Reading.{read}
use Rattle.jx_run.specs.Tree.{span}

pub record TextRunValue : Type 0 where
  pub depth : ℕ
  pub map : Map
  pub transitions : List Transition
  pub structures : List StructureValue

abbrev pub text_span : TextRunValue → Span
text_span run = span run.map.start run.map.end

-- its outcomes alone
abbrev pub outcomes_of : TextRunValue → OutcomeRunValue
outcomes_of run = record { depth = run.depth; start = run.map.start; end = run.map.end; transitions = run.transitions; structures = run.structures }

-- the run is the summary of these bytes: from each state the tokens, the ends and the exit are those of the lexical
-- machine, and from each state, each expectation and every list of open containers within the depth the outcome is that
-- of reading
pub record IsTextRun (bytes : List ℕ) (run : TextRunValue) : Type 0 where
  pub long : run.map.end ≡ run.map.start + length bytes
  pub tracks : (s : LexState) → track run.map s ≡ lex s run.map.start bytes
  pub outcomes : (s : LexState) (expect : Expect) (holders : List Holder) → length holders ≤ run.depth
      → outcome (outcomes_of run) s expect holders ≡ read run.depth s expect holders run.map.start bytes
