use Rattle.std.proofs.Common.{◌≡◌, ℕ, ◌+◌, ◌<◌, true, false, get_or}
use Rattle.jx_lex.specs.inside.Bits.{bit}
use Rattle.jx_block.specs.inside.Planes.{is_stop}
use Rattle.jx_block.specs.inside.Whole.{IsWhole}
use Rattle.jx_block.proofs.scalars.visit.Given as goal

abbrev pub invariant-loop-rest : goal.invariant-loop-rest
invariant-loop-rest l = record {
  among : (k : ℕ) → bit l.rest k ≡ true → bit l.firsts k ≡ true;
  whole : (k : ℕ) → k < 64 → bit l.firsts k ≡ true → bit l.rest k ≡ false → IsWhole l.text l.at (bit l.scalars) (λ j. is_stop (get_or l.text (l.at + j) 0)) k;
}

abbrev pub decreases-loop-rest : goal.decreases-loop-rest
decreases-loop-rest l = l.rest
