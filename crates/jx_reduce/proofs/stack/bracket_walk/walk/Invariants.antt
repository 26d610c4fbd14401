use Rattle.std.proofs.Common.{◌≡◌, ◌+◌, ◌<◌, ◌≤◌, ◌++◌, ℕ, List, false, length}
use Rattle.jx_lex.specs.inside.Bits.{bit}
use Rattle.jx_reduce.specs.Bits.{in_word}
use Rattle.jx_reduce.specs.Read.{top}
use Rattle.jx_reduce.specs.declared.table.holder.Holder.{Holder}
use Rattle.jx_reduce.specs.Containers.{IsInner}
use Rattle.jx_reduce.specs.inside.Blocks.{container, Walks}
use Rattle.jx_reduce.proofs.BlockWalk.{any_bracket}
use Rattle.jx_reduce.proofs.stack.bracket_walk.walk.Given as goal

-- the brackets before a place were walked over, and the others are left
abbrev pub invariant-loop-left : goal.invariant-loop-left
invariant-loop-left l = record {
  inner : IsInner l.inner;
  low : l.from ≤ 64;
  none : (j : ℕ) → j < l.from → bit l.left j ≡ false;
  others : (j : ℕ) → l.from ≤ j → j < 64 → bit l.left j ≡ any_bracket l.kinds j;
  objects : (rest : List Holder) (j : ℕ) → l.from ≤ j → j < 64 → top (in_word l.inner.count l.inner.bits ++ rest) ≡ container (bit l.objects j);
  within : (n : ℕ) → ((k : ℕ) → n ≤ k → k < 64 → any_bracket l.kinds k ≡ false) → l.from ≤ n;
  walks : (rest : List Holder) (most : ℕ) → length rest + l.room ≤ most → Walks l.kinds (bit l.objects) most (in_word l.fn.inner.count l.fn.inner.bits ++ rest) l.from (in_word l.inner.count l.inner.bits ++ rest);
}

abbrev pub decreases-loop-left : goal.decreases-loop-left
decreases-loop-left l = l.left
