-- How long an index is.
use Rattle.std.proofs.Common.{◌≡◌, ℕ, ◌+◌, ◌*◌, ◌≤◌, List, ◌++◌, length, refl, ap, ◌∙◌, append_assoc, arith}
use Rattle.std.proofs.lemmas.List.{length-append}
use Rattle.std.specs.Int.{w64, to_le_bytes}
use Rattle.std.specs.List.{flat_map}
use Rattle.jx_file_index.specs.declared.index.Index.{Index}
use Rattle.jx_file_index.specs.Digest.{xxh64}
use Rattle.jx_file_index.specs.Spelling.{spelt_entry, spelt_front, spelt_index}
use Rattle.jx_file_index.proofs.Decodings.{entries_long}

abbrev seal : Index → List ℕ
seal i = to_le_bytes w64 (xxh64 (spelt_front i))

front_long : (i : Index) → length (spelt_front i) ≡ 56
front_long i = refl

pub spelt_long : (i : Index) → length (spelt_index i) ≡ 64 + 24 * length i.entries.items
spelt_long i =
    let outer : length (spelt_index i) ≡ length (spelt_front i ++ seal i) + length (flat_map spelt_entry i.entries.items) = length-append (spelt_front i ++ seal i) (flat_map spelt_entry i.entries.items) in
    let inner : length (spelt_front i ++ seal i) ≡ length (spelt_front i) + length (seal i) = length-append (spelt_front i) (seal i) in
    let eight : length (seal i) ≡ 8 = refl in
    let front = front_long i in
    let rest = entries_long i.entries.items in
    omega (arith, outer, inner, eight, front, rest)

-- what its digest is of, and what stands behind it
pub front_split : (i : Index) (rest : List ℕ) → spelt_index i ++ rest ≡ spelt_front i ++ (seal i ++ (flat_map spelt_entry i.entries.items ++ rest))
front_split i rest =
    append_assoc (spelt_front i ++ seal i) (flat_map spelt_entry i.entries.items) rest
    ∙ append_assoc (spelt_front i) (seal i) (flat_map spelt_entry i.entries.items ++ rest)

-- as long as what it is followed by leaves
pub no_longer : (i : Index) (bytes rest : List ℕ) (len : ℕ) → bytes ≡ spelt_index i ++ rest → len ≡ 64 + 24 * length i.entries.items → length bytes ≤ len → length bytes ≡ length (spelt_index i)
no_longer i bytes rest len is long low =
    let b : length bytes ≡ length (spelt_index i ++ rest) = ap (λ (xs : List ℕ). length xs) is in
    let l : length (spelt_index i ++ rest) ≡ length (spelt_index i) + length rest = length-append (spelt_index i) rest in
    let s = spelt_long i in
    omega (arith, b, l, s, long, low)
