-- Bytes that are skipped at once, and what their tokens make of a reading.
use Rattle.std.specs.Prelude.{◌≡◌, ◌≤◌, ◌⊎◌, ℕ, List, Some, length, slice_range}
use Rattle.jx_lex.specs.declared.alphabet.state.LexState.TheVariants.{Gap}
use Rattle.jx_lex.specs.Lex as reading
use Rattle.jx_lex.specs.Lex.{lex}
use Rattle.jx_lex.specs.declared.alphabet.mark.MarkKind.TheVariants.{Comma, CloseArray, CloseObject}
use Rattle.jx_reduce.specs.Read.{Reading, read, top, without_top}
use Rattle.jx_reduce.specs.Table.{next_of}
use Rattle.jx_reduce.specs.declared.table.holder.Holder.{Holder}
use Rattle.jx_reduce.specs.declared.table.expect.Expect.{Expect}
use Rattle.jx_reduce.specs.declared.table.expect.Expect.TheVariants.{Value, ArrayFirst, After}
use Rattle.jx_reduce.specs.declared.stack.whole_tokens.Turn.{Turn}
use Rattle.jx_reduce.specs.declared.stack.whole_tokens.Turn.TheVariants.{On, Stop}

-- the bytes are read from between tokens to between tokens, and their tokens lead from one reading to the other
pub record Reads (depth : ℕ) (text : List ℕ) (from to : ℕ) (old new : Reading) : Type 0 where
  pub low : from ≤ to
  pub fits : to ≤ length text
  pub exit : (lex Gap from (slice_range text from to)).exit ≡ reading.state Gap
  pub read : new ≡ read depth (lex Gap from (slice_range text from to)).marks old

-- the tokens that may stand where a turn ends
abbrev pub expect_of : Turn → Expect
expect_of (On e) = e
expect_of (Stop e) = e

-- a value may stand next
abbrev pub TakesValue : Expect → Type 0
TakesValue e = (e ≡ Value) ⊎ (e ≡ ArrayFirst)

-- after a value this byte leads to what may stand next, and to these open containers
pub data Leaves (byte : ℕ) (then : Expect) (old new : List Holder) : Type 0 where
  comma : byte ≡ 0x2c → next_of Comma After (top old) ≡ Some then → new ≡ old → Leaves byte then old new
  array_end : byte ≡ 0x5d → next_of CloseArray After (top old) ≡ Some then → new ≡ without_top old → Leaves byte then old new
  object_end : byte ≡ 0x7d → next_of CloseObject After (top old) ≡ Some then → new ≡ without_top old → Leaves byte then old new
