-- The batch was taken in for the pointers before this one.
use Rattle.std.specs.List.{All}
use Rattle.std.proofs.Common.{◌≡◌, ℕ, List, ◌++◌, length}
use Rattle.jx_values.specs.inside.Kept.{IsKeptOf}
use Rattle.jx_values.proofs.Gathers.{AreKeptSo}
use Rattle.jx_values.proofs.value_reader.keep_each.Given as goal

abbrev pub invariant-loop-number : goal.invariant-loop-number
invariant-loop-number l = record {
  long : length l.kept.items ≡ length l.fn.kept.items;
  kept : (text : List ℕ) → length text ≡ l.base → All (IsKeptOf text) l.fn.kept.items → AreKeptSo (IsKeptOf text) (IsKeptOf (text ++ l.batch)) l.kept.items l.number;
}
