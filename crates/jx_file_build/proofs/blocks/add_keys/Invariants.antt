use Rattle.std.proofs.Common.{◌≡◌, ◌++◌, map, take}
use Rattle.std.specs.List.{AllByRecursion}
use Rattle.jx_file_index.specs.NameTables.{key_of}
use Rattle.jx_file_index.specs.SavedTexts.{IsWord}
use Rattle.jx_file_build.proofs.blocks.add_keys.Given as goal

abbrev pub invariant-loop-hash : goal.invariant-loop-hash
invariant-loop-hash l = record {
  keys : l.keys.items ≡ l.fn.keys.items ++ map (λ hash. key_of hash l.chunk) (take l.hash-index l.hashes);
  words : AllByRecursion IsWord l.fn.keys.items → AllByRecursion IsWord l.keys.items;
}
