-- Containers as bits: 0 for an array and 1 for an object, the innermost lowest.
use Rattle.std.specs.Prelude.{ℕ, zero, suc, ◌/◌, ◌%◌, List, [], ◌∷◌, ◌++◌}
use Rattle.jx_reduce.specs.declared.table.holder.Holder.{Holder}
use Rattle.jx_reduce.specs.declared.table.holder.Holder.TheVariants.{Array, Object}

abbrev pub holder_of : ℕ → Holder
holder_of zero = Array
holder_of (suc _) = Object

-- the containers of the lowest bits, as many as are said
unfoldable pub in_word : ℕ → ℕ → List Holder
in_word zero bits = []
in_word (suc n) bits = holder_of (bits % 2) ∷ in_word n (bits / 2)

-- the containers of full words, the innermost word first
abbrev pub in_words : List ℕ → List Holder
in_words [] = []
in_words (w ∷ ws) = in_word 64 w ++ in_words ws
