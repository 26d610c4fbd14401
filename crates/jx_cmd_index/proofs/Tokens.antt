-- A pointer has a token behind each of its slashes.
use Rattle.std.proofs.Common.{◌≡◌, ℕ, zero, suc, ◌+◌, ◌-◌, ◌<◌, ◌≤◌, List, [], ◌∷◌, length, map, drop, get_or, Bool, true, false, refl, ap, ◌∙◌, arith}
use Rattle.std.specs.Prelude.{◌==◌, if◌then◌else◌}
use Rattle.std.proofs.Math.Seq.{drop-cons}
use Rattle.std.proofs.lemmas.List.{length-drop, length-map}
use Rattle.jx_index.specs.declared.units.Spelling.TheVariants.{InToken}
use Rattle.jx_index.specs.Pointers.{onto_first, parted, tokens}
use Rattle.jx_index.specs.Units.{chars_units}

abbrev pub one_if : Bool → ℕ
one_if b = if b then 1 else 0

pub one_low : (b : Bool) → one_if b ≤ 1
one_low true = omega arith
one_low false = omega arith

abbrev pub slashes : List ℕ → ℕ
slashes [] = 0
slashes (b ∷ bs) = one_if (b == 0x2f) + slashes bs

onto_long : (b : ℕ) (xs : List (List ℕ)) (n : ℕ) → length xs ≡ suc n → length (onto_first b xs) ≡ suc n
onto_long b [] n h = absurd (omega (arith, h))
onto_long b (x ∷ xs) n h = h

parted_if : (x : Bool) (b : ℕ) (bs : List ℕ) → length (parted bs) ≡ suc (slashes bs) → length (if x then [] ∷ parted bs else onto_first b (parted bs)) ≡ suc (one_if x + slashes bs)
parted_if true b bs h = omega (arith, h)
parted_if false b bs h = onto_long b (parted bs) (0 + slashes bs) (omega (arith, h))

parted_long : (bs : List ℕ) → length (parted bs) ≡ suc (slashes bs)
unfolding parted
parted_long [] = refl
parted_long (b ∷ bs) = parted_if (b == 0x2f) b bs (parted_long bs)

tokens_long : (bs : List ℕ) → length (tokens bs) ≡ slashes bs
tokens_long bs =
    let p = parted_long bs in
    let d : length (drop 1 (parted bs)) ≡ length (parted bs) - 1 = length-drop 1 (parted bs) in
    length-map (drop 1 (parted bs)) (chars_units InToken 0) ∙ (let e : length (drop 1 (parted bs)) ≡ slashes bs = omega (arith, p, d) in e)

-- those before an offset, and those from there on
pub count_begins : (bytes : List ℕ) → 0 + slashes (drop 0 bytes) ≡ slashes bytes
count_begins bytes = omega arith

pub count_goes : (bytes : List ℕ) (at count more : ℕ) → at < length bytes → more ≡ one_if (get_or bytes at 0 == 0x2f) → count + slashes (drop at bytes) ≡ slashes bytes → (count + more) + slashes (drop (suc at) bytes) ≡ slashes bytes
count_goes bytes at count more low is h =
    let e : slashes (drop at bytes) ≡ one_if (get_or bytes at 0 == 0x2f) + slashes (drop (suc at) bytes) = ap (λ (xs : List ℕ). slashes xs) (drop-cons bytes at 0 low) in
    omega (arith, e, is, h)

none_left : (bytes : List ℕ) (at : ℕ) → length bytes ≤ at → slashes (drop at bytes) ≡ 0
none_left [] at low = nothing at
  where
    nothing : (n : ℕ) → slashes (drop n []) ≡ 0
    nothing zero = refl
    nothing (suc n) = refl
none_left (b ∷ bytes) zero low = absurd (omega (arith, low))
none_left (b ∷ bytes) (suc at) low = none_left bytes at (omega (arith, low))

pub count_ends : (bytes : List ℕ) (at count : ℕ) → length bytes ≤ at → count + slashes (drop at bytes) ≡ slashes bytes → count ≡ length (tokens bytes)
count_ends bytes at count low h =
    let n = none_left bytes at low in
    let t = tokens_long bytes in
    omega (arith, n, t, h)
