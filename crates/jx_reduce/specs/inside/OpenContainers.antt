-- Open containers in a word and in full words around it.
use Rattle.std.specs.Prelude.{◌≡◌, ◌^◌, ◌<◌, ◌≤◌, List, [], ◌++◌, reverse}
use Rattle.jx_reduce.specs.Bits.{in_word, in_words}
use Rattle.jx_reduce.specs.declared.table.holder.Holder.{Holder}
use Rattle.jx_reduce.specs.declared.stack.open_containers.OpenContainers.TheInside.{Inside}

abbrev pub holders_in : Inside → List Holder
holders_in a = in_word a.count a.bits ++ in_words (reverse a.words.items)

-- the innermost word is empty only where nothing is open
pub record IsPacked (a : Inside) : Type 0 where
  pub count : a.count ≤ 64
  pub bits : a.bits < 2 ^ a.count
  pub none : a.count ≡ 0 → a.words.items ≡ []
