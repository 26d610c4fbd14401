-- The tokens of a slice that a known stack, and a sink that is given what the stack goes past, have seen.
use Rattle.std.specs.Prelude.{◌≡◌, ℕ, List}
use Rattle.jx_lex.specs.declared.alphabet.mark.Mark.{Mark}
use Rattle.jx_lex.specs.Seen.{Seen}
use Rattle.jx_reduce.specs.KnownStack.{Known}
use Rattle.jx_reduce.specs.Read.{read}
use Rattle.jx_run.specs.Telling.{SeesPast}

-- after an earlier stack, and what the sink had seen then
pub record HasSeenPast (old : Seen) (earlier : Known) (other : Seen) (marks : List Mark) (ends : List ℕ) (stack : Known) : Type 0 where
  pub depth : stack.depth ≡ earlier.depth
  pub reading : stack.reading ≡ read earlier.depth marks earlier.reading
  pub told : SeesPast old other earlier.depth earlier.reading marks ends
