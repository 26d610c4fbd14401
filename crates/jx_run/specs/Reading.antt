-- The plain reading of bytes from a known configuration: the lexical machine, and at each of its tokens the table of
-- moves.
use Rattle.std.specs.Prelude.{ℕ, List, [], Bool, true, false}
use Rattle.jx_lex.specs.declared.alphabet.state.LexState.{LexState}
use Rattle.jx_lex.specs.declared.alphabet.state.LexState.TheVariants as state
use Rattle.jx_lex.specs.Lex.{lex, LexExit}
use Rattle.jx_reduce.specs.declared.table.expect.Expect.{Expect}
use Rattle.jx_reduce.specs.declared.table.expect.Expect.TheVariants.{Value}
use Rattle.jx_reduce.specs.declared.table.holder.Holder.{Holder}
use Rattle.jx_reduce.specs.Read.{Reading, read as read_marks}

-- the end of reading: the configuration there, with the open containers innermost first, or the first fault; it is one
-- of depth where a container would be opened while as many as the depth are open
pub data TextReading : Type 0 where
  went : LexState → Expect → List Holder → TextReading
  stopped : ℕ → TextReading
  too_deep : ℕ → TextReading

-- reading goes on where it led to; a fault ends it
abbrev pub and_then : TextReading → (LexState → Expect → List Holder → TextReading) → TextReading
and_then (went s e o) more = more s e o
and_then (stopped at) more = stopped at
and_then (too_deep at) more = too_deep at

-- a fault of the lexical machine comes after its tokens
abbrev pub at_exit : LexExit → Reading → TextReading
at_exit (LexExit.state s) (Reading.went expect holders) = went s expect holders
at_exit (LexExit.fault at) (Reading.went expect holders) = stopped at
at_exit exit (Reading.stopped at) = stopped at
at_exit exit (Reading.too_deep at) = too_deep at

-- reads the bytes, which stand from an offset on, within a depth
unfoldable pub read : ℕ → LexState → Expect → List Holder → ℕ → List ℕ → TextReading
read limit from expect holders at bytes =
    let track = lex from at bytes in at_exit track.exit (read_marks limit track.marks (Reading.went expect holders))

-- reads a text from its start: between tokens, with a value expected and no container open (RFC 8259, section 2)
abbrev pub read_text : ℕ → ℕ → List ℕ → TextReading
read_text limit at bytes = read limit state.Gap Value [] at bytes

-- a state in which a whole text may end: between tokens, or in a number that is complete
abbrev pub is_final : LexState → Bool
is_final state.Gap = true
is_final state.Zero = true
is_final state.Int = true
is_final state.Frac = true
is_final state.Exp = true
is_final _ = false
