use Rattle.std.proofs.Common.{◌≡◌, ℕ, ◌-◌, ◌<◌, ◌≤◌, sum_by, vec_len}
use Rattle.std.specs.Prelude.{slice_index_or}
use Rattle.jx_book.specs.Runs.{IsApart, run_len}
use Rattle.jx_book.specs.Shares.{IsOf}
use Rattle.jx_book.proofs.lock.book.carry_all.Given as goal

abbrev pub invariant-loop-i : goal.invariant-loop-i
invariant-loop-i g l = record {
  bound : l.i ≤ vec_len l.runs;
  apart : IsApart l.runs.items;
  of : (k : ℕ) (d : _) → k < l.i → IsOf l.text l.depth (slice_index_or l.runs.items k d);
  total : sum_by run_len l.runs.items ≡ sum_by run_len l.initial.runs.items;
}

abbrev pub decreases-loop-i : goal.decreases-loop-i
decreases-loop-i g l = vec_len l.runs - l.i
