-- Open containers in full words and the innermost word, which has one at least where any is open.
use Rattle.std.specs.Prelude.{ℕ, ◌-◌, ◌*◌, ◌/◌, List, ◌++◌, reverse, take}
use Rattle.jx_reduce.specs.Bits.{in_word, in_words}
use Rattle.jx_reduce.specs.declared.table.holder.Holder.{Holder}

-- so many words of so many containers are full, besides the innermost one
abbrev pub full_count : ℕ → ℕ
full_count n = (n - 1) / 64

-- so many containers stand in the innermost word
abbrev pub inner_count : ℕ → ℕ
inner_count n = n - full_count n * 64

-- so many containers, the innermost first
abbrev pub holders : ℕ → ℕ → List ℕ → List Holder
holders n bits words = in_word (inner_count n) bits ++ in_words (reverse (take (full_count n) words))
