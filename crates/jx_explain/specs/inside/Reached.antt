-- How far bytes were read from the start of a text.
use Rattle.std.specs.Prelude.{◌≡◌, ℕ, List}
use Rattle.jx_lex.specs.declared.alphabet.mark.Mark.{Mark}
use Rattle.jx_lex.specs.declared.alphabet.state.LexState.{LexState}
use Rattle.jx_reduce.specs.KnownStack.{Known, HasRead}
use Rattle.jx_reduce.specs.Read as tokens
use Rattle.jx_reduce.specs.declared.table.expect.Expect.{Expect}
use Rattle.jx_reduce.specs.declared.table.holder.Holder.{Holder}
use Rattle.jx_run.specs.Reading.{read_text, went}

-- the bytes, which stand from an offset on, led to this state and to what the stack stands for
pub record HasReached (limit from : ℕ) (bytes : List ℕ) (stack : Known) (state : LexState) : Type 0 where
  pub marks : List Mark
  pub read : HasRead marks stack
  pub depth : stack.depth ≡ limit
  pub expect : Expect
  -- the open containers, innermost first
  pub open_ones : List Holder
  pub stands : stack.reading ≡ tokens.went expect open_ones
  pub text : read_text limit from bytes ≡ went state expect open_ones
