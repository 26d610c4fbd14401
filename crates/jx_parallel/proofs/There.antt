-- Parts of a known text side by side.
use Rattle.std.proofs.Common.{◌≡◌, ℕ, ◌+◌, ◌-◌, ◌≤◌, List, ◌++◌, length, length-append, take, sym, ap, ◌∙◌, subst, arith, take_all}
use Rattle.std.specs.Prelude.{slice_range, Option, None, Some}
use Rattle.jx_parallel.specs.Offsets.{EndsBefore, IsContent, StandThere}
use Rattle.std.proofs.lemmas.List.Edits.{length-between}
use Rattle.jx_parallel.proofs.Ranges.{inner_range, range_split}

-- what stands there, and behind it what stands there, is both of them
pub both_there : (known : Option (List ℕ)) (at : ℕ) (xs ys : List ℕ) → StandThere known at xs → StandThere known (at + length xs) ys → StandThere known at (xs ++ ys)
both_there None at xs ys left right = left
both_there (Some ks) at xs ys left right =
    let long : at + length (xs ++ ys) ≡ (at + length xs) + length ys = omega (arith, length-append xs ys) in
    ap (λ n. slice_range ks at n) long
    ∙ range_split ks at (at + length xs) ((at + length xs) + length ys) (omega arith) (omega arith)
    ∙ ap (λ l. l ++ slice_range ks (at + length xs) ((at + length xs) + length ys)) left
    ∙ ap (λ l. xs ++ l) right

pub front_there : (known : Option (List ℕ)) (xs ys : List ℕ) → StandThere known 0 xs → StandThere known (length xs) ys → StandThere known 0 (xs ++ ys)
front_there known xs ys left right =
    let n : length xs ≡ 0 + length xs = omega arith in
    both_there known 0 xs ys left (subst (λ (k : ℕ). StandThere known k ys) n right)

whole_range : (ks : List ℕ) (n : ℕ) → length ks ≤ n → slice_range ks 0 n ≡ ks
whole_range ks n long =
    let e : n - 0 ≡ n = omega arith in
    ap (λ k. take k ks) e ∙ take_all n ks long

-- bytes that stand in front of a known text and reach its end are all of it
pub all_there : (ks xs : List ℕ) → StandThere (Some ks) 0 xs → length ks ≤ length xs → xs ≡ ks
all_there ks xs there long =
    let n : 0 + length xs ≡ length xs = omega arith in
    sym there ∙ ap (λ k. slice_range ks 0 k) n ∙ whole_range ks (length xs) long

-- a part of what stands there stands there too
pub inner_there : (known : Option (List ℕ)) (at : ℕ) (bytes : List ℕ) (i j : ℕ) → i ≤ j → j ≤ length bytes → StandThere known at bytes → StandThere known (at + i) (slice_range bytes i j)
inner_there None at bytes i j ij high there = there
inner_there (Some ks) at bytes i j ij high there =
    let len : length (slice_range bytes i j) ≡ j - i = length-between bytes i j high in
    let end : (at + i) + length (slice_range bytes i j) ≡ at + j = omega (arith, len, ij) in
    let most : (at + length bytes) - at ≡ length bytes = omega arith in
    ap (λ n. slice_range ks (at + i) n) end
    ∙ sym (inner_range ks at (at + length bytes) i j ij (omega (arith, high, most)))
    ∙ ap (λ (l : List ℕ). slice_range l i j) there

-- bytes that stand in front, and behind which the text ends, are all of it
pub is_whole : (known : Option (List ℕ)) (bytes : List ℕ) → StandThere known 0 bytes → EndsBefore known (length bytes) → IsContent known bytes
is_whole None bytes there end = tt
is_whole (Some ks) bytes there end = all_there ks bytes there end
