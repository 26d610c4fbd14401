use Rattle.std.proofs.Common.{◌≡◌, ℕ, List, length, take}
use Rattle.std.specs.Int.{w32, to_le_bytes}
use Rattle.std.specs.List.{AllByRecursion, flat_map}
use Rattle.jx_file_index.specs.SavedTexts.{IsWord}
use Rattle.jx_file_index.proofs.text_decoding.keys_of.Given as goal

abbrev pub invariant-loop-n : goal.invariant-loop-n
invariant-loop-n l = record {
  count : length l.keys.items ≡ l.n;
  reads : (ks : List ℕ) → AllByRecursion IsWord ks → l.bytes ≡ flat_map (to_le_bytes w32) ks → l.keys.items ≡ take l.n ks;
}
