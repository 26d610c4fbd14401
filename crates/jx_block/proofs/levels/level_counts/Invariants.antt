use Rattle.std.proofs.Common.{◌≡◌, ◌<◌, ◌≤◌, ℕ, false}
use Rattle.std.specs.Prelude.{◌||◌, ◌==◌}
use Rattle.jx_lex.specs.inside.Bits.{bit}
use Rattle.jx_block.specs.inside.Levels.{HasLowest, levels_to}
use Rattle.jx_block.proofs.levels.level_counts.Given as goal

-- the mask is that of the bytes before a place, and the brackets behind it are left
abbrev pub invariant-loop-left : goal.invariant-loop-left
invariant-loop-left l = record {
  low : l.from ≤ 64;
  none : (j : ℕ) → j < l.from → bit l.left j ≡ false;
  others : (j : ℕ) → l.from ≤ j → j < 64 → bit l.left j ≡ (bit l.opening j || bit l.closing j);
  has : HasLowest l.commas l.values l.from l.so_far.lowest l.so_far.above l.so_far.bytes (levels_to l.opening l.closing l.commas l.values l.from);
  behind : (j : ℕ) → l.from ≤ j → j < 64 → bit l.so_far.bytes j ≡ (l.so_far.above == 0);
  few_levels : l.so_far.lowest ≤ l.from;
  few_above : l.so_far.above ≤ l.from;
}

abbrev pub decreases-loop-left : goal.decreases-loop-left
decreases-loop-left l = l.left
