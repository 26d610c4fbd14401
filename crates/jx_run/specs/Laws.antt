-- The outcome of reading a text from its start, as the laws of the reader state it.
use Rattle.std.specs.Prelude.{◌≡◌, ℕ, List, [], Bool, true, false, if◌then◌else◌}
use Rattle.jx_summary.specs.declared.span.Span.{Span}
use Rattle.jx_lex.specs.declared.alphabet.state.LexState.{LexState}
use Rattle.jx_reduce.specs.declared.table.expect.Expect.{Expect}
use Rattle.jx_reduce.specs.declared.table.expect.Expect.TheVariants as expect
use Rattle.jx_reduce.specs.declared.table.holder.Holder.{Holder}
use Rattle.jx_run.specs.declared.texts.verdict.Verdict.{Verdict}
use Rattle.jx_run.specs.declared.texts.verdict.Verdict.TheVariants.{Accepted, Refused}
use Rattle.jx_run.specs.declared.texts.verdict.Refusal.TheVariants.{Stopped, Truncated, TooDeep}
use Rattle.jx_run.specs.Reader.{Outcome, in_front, reads}
use Rattle.jx_run.specs.Reading.{TextReading, went, stopped, too_deep, read_text, is_final}
use Rattle.jx_run.specs.Text.{Begins}
use Rattle.jx_run.specs.Tree.{Tree, node}

abbrev pub IsNoFault : TextReading → Type 0
IsNoFault (went s e o) = Unit {0}
IsNoFault (stopped at) = ⊥
IsNoFault (too_deep at) = ⊥

-- a whole text may end here
abbrev pub is_end : LexState → Expect → List Holder → Bool
is_end s expect.After [] = is_final s
is_end s _ _ = false

abbrev pub IsAccepting : TextReading → Type 0
IsAccepting (went s e o) = is_end s e o ≡ true
IsAccepting (stopped at) = ⊥
IsAccepting (too_deep at) = ⊥

-- the first fault is at this offset
abbrev pub IsFaultAt : TextReading → ℕ → Type 0
IsFaultAt (went s e o) i = ⊥
IsFaultAt (stopped at) i = at ≡ i
IsFaultAt (too_deep at) i = at ≡ i

abbrev pub IsTooDeep : TextReading → Type 0
IsTooDeep (went s e o) = ⊥
IsTooDeep (stopped at) = ⊥
IsTooDeep (too_deep at) = Unit {0}

-- the verdict of an outcome
abbrev pub verdict_of : TextReading → Verdict
verdict_of (went s e o) = if is_end s e o then Accepted else Refused Truncated
verdict_of (stopped at) = Refused (Stopped at)
verdict_of (too_deep at) = Refused (TooDeep at)

-- the same with what may stand in front; what begins a byte order mark begins a text
abbrev pub verdict_on : Outcome → Verdict
verdict_on (in_front n) = Refused Truncated
verdict_on (reads r) = verdict_of r

-- the same of reading bytes that stand from an offset on, within a depth

abbrev pub MeetsNoFault : ℕ → ℕ → List ℕ → Type 0
MeetsNoFault limit at bytes = IsNoFault (read_text limit at bytes)

abbrev pub Accepts : ℕ → ℕ → List ℕ → Type 0
Accepts limit at bytes = IsAccepting (read_text limit at bytes)

abbrev pub FaultsAt : ℕ → ℕ → List ℕ → ℕ → Type 0
FaultsAt limit at bytes i = IsFaultAt (read_text limit at bytes) i

abbrev pub FaultsTooDeep : ℕ → ℕ → List ℕ → Type 0
FaultsTooDeep limit at bytes = IsTooDeep (read_text limit at bytes)

-- the bytes begin a text of some depth
abbrev pub BeginsAtSomeDepth : List ℕ → Type 0
BeginsAtSomeDepth bytes = (limit : ℕ) × Begins bytes limit

-- where a value stands
abbrev pub span_of : Tree → Span
span_of (node kind span below) = span
