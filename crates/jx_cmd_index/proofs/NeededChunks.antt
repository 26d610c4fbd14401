-- Chunks of a file beside those of a text.
use Rattle.std.specs.Prelude.{Option, Some, slice_range}
use Rattle.std.proofs.Common.{◌≡◌, ℕ, ◌+◌, ◌*◌, ◌-◌, ◌<◌, ◌≤◌, true, false, List, length, take, drop, min, refl, sym, ap, subst, ◌∙◌, arith, leb, leb-true, leb-false, ◌⊎◌, inl, inr}
use Rattle.std.proofs.lemmas.List.{length-drop, take_all}
use Rattle.jx_file_index.specs.Chunks.{part}
use Rattle.jx_cmd_index.specs.Offsets.{EndsBefore, HasSize, StandThere}

-- ---- what was read of a file

known_there : (known : Option (List ℕ)) (all : List ℕ) (start : ℕ) (bytes : List ℕ) → known ≡ Some all → StandThere known start bytes → bytes ≡ take (length bytes) (drop start all)
known_there known all start bytes is h = let P : Option (List ℕ) → Type 0 = λ o. StandThere o start bytes in subst P is h

pub known_size : (known : Option (List ℕ)) (all : List ℕ) (size : ℕ) → known ≡ Some all → HasSize known size → length all ≡ size
known_size known all size is h = let P : Option (List ℕ) → Type 0 = λ o. HasSize o size in subst P is h

known_end : (known : Option (List ℕ)) (all : List ℕ) (at : ℕ) → known ≡ Some all → EndsBefore known at → length all ≤ at
known_end known all at is h = let P : Option (List ℕ) → Type 0 = λ o. EndsBefore o at in subst P is h

whole_of : (n len start end total : ℕ) → n ≤ len → len ≡ end - start → start ≤ end → end ≤ total → (n < len → total ≤ start + n) → n ≡ len
whole_of n len start end total short is order within ended = grind (arith, short, is, order, within, ended)

-- all bytes of the part were read, as the file has them
pub all_read : (known : Option (List ℕ)) (all : List ℕ) (start end size : ℕ) (bytes : List ℕ) → known ≡ Some all → HasSize known size → start ≤ end → end ≤ size
    → StandThere known start bytes → length bytes ≤ end - start → (length bytes < end - start → EndsBefore known (start + length bytes)) → bytes ≡ slice_range all start end
all_read known all start end size bytes is sized order within there short ended =
    let long : length all ≡ size = known_size known all size is sized in
    let inside : end ≤ length all = omega (arith, long, within) in
    let whole : length bytes ≡ end - start =
    whole_of (length bytes) (end - start) start end (length all) short refl order inside (λ low. known_end known all (start + length bytes) is (ended low)) in
    known_there known all start bytes is there ∙ ap (λ n. take n (drop start all)) whole

-- ---- chunks

pub both_taken : (a b : ℕ) (xs : List ℕ) → (a ≡ b) ⊎ ((length xs ≤ a) × (length xs ≤ b)) → take a xs ≡ take b xs
both_taken a b xs (inl same) = ap (λ n. take n xs) same
both_taken a b xs (inr all) = take_all a xs all.0 ∙ sym (take_all b xs all.1)

ends : (at chunk size : ℕ) → (min (at + chunk) size - at ≡ chunk) ⊎ ((size - at ≤ min (at + chunk) size - at) × (size - at ≤ chunk))
ends at chunk size = elim (leb (at + chunk) size) as (λ b. leb (at + chunk) size ≡ b → (min (at + chunk) size - at ≡ chunk) ⊎ ((size - at ≤ min (at + chunk) size - at) × (size - at ≤ chunk))) [
  | true ↦ λ e. inl (omega (arith, leb-true (at + chunk) size e))
  | false ↦ λ e. inr (omega (arith, leb-false (at + chunk) size e), omega (arith, leb-false (at + chunk) size e))
] refl

-- where the chunk at a place stands, up to the end of the text
pub chunk_there : (at chunk size : ℕ) (xs : List ℕ) → length xs ≡ size → slice_range xs (at * chunk) (min (at * chunk + chunk) size) ≡ part chunk xs at
chunk_there at chunk size xs long =
    let rest : length (drop (at * chunk) xs) ≡ size - at * chunk = length-drop (at * chunk) xs ∙ ap (λ n. n - at * chunk) long in
    both_taken (min (at * chunk + chunk) size - at * chunk) chunk (drop (at * chunk) xs)
    (subst (λ n. (min (at * chunk + chunk) size - at * chunk ≡ chunk) ⊎ ((n ≤ min (at * chunk + chunk) size - at * chunk) × (n ≤ chunk))) (sym rest) (ends (at * chunk) chunk size))
