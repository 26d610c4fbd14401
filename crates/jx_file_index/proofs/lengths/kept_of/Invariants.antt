use Rattle.std.proofs.Common.{ℕ, ◌+◌, ◌*◌, ◌<◌, ◌≤◌}
use Rattle.jx_file_index.specs.Saved.{AreKept}
use Rattle.jx_file_index.proofs.lengths.kept_of.Given as goal

abbrev pub invariant-levels : goal.invariant-levels
invariant-levels l = record {
  so_far : (k : ℕ) → AreKept l.level k → AreKept l.fn.chunks (l.kept + k);
  some : 0 < l.level;
  few : l.kept + 2 * l.level ≤ 2 * l.fn.chunks;
}

abbrev pub decreases-levels : goal.decreases-levels
decreases-levels l = l.level
