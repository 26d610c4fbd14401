-- The tokens of a scan that a known stack and another sink beside it have seen.
use Rattle.std.specs.Prelude.{◌≡◌, ℕ, List, ◌∷◌}
use Rattle.jx_lex.specs.declared.alphabet.mark.Mark.{Mark}
use Rattle.jx_lex.specs.Seen.{Seen}
use Rattle.jx_reduce.specs.KnownStack.{Known, IsFault}
use Rattle.jx_reduce.specs.KnownStack.{HasSeen}

-- after the depth stands 1 where the other sink is said to have seen something, and then its ends: while the stack has
-- met no fault, it has seen the same tokens, and those ends
pub record BothHaveSeen (other : Seen) (marks : List Mark) (told : List ℕ) (stack : Known) : Type 0 where
  pub stack_has : HasSeen marks told stack
  pub said : ℕ
  pub ends : List ℕ
  pub rest : stack_has.rest ≡ said ∷ ends
  pub other_has : (IsFault stack.reading → ⊥) → said ≡ 1 → other marks ends
