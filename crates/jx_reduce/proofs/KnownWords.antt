-- Containers in words of bits.
use Rattle.std.proofs.Common.{◌≡◌, ℕ, zero, suc, ◌+◌, ◌-◌, ◌*◌, ◌/◌, ◌%◌, ◌<◌, ◌≤◌, List, [], ◌∷◌, ◌++◌, length, refl, sym, ◌∙◌, ap, arith}
use Rattle.std.specs.Prelude.{reverse}
use Rattle.std.proofs.Math.Numerals.{add-one, sub-one}
use Rattle.std.proofs.lemmas.List.{reverse-append, length-append, length-reverse}
use Rattle.jx_reduce.specs.Read.{top, without_top}
use Rattle.jx_reduce.specs.Bits.{holder_of, in_word, in_words}
use Rattle.jx_reduce.specs.declared.table.holder.Holder.{Holder}
use Rattle.jx_reduce.specs.declared.table.holder.Holder.TheVariants.{Object}

pub holder_of-object : (n : ℕ) → (n ≡ 0 → ⊥) → holder_of n ≡ Object
holder_of-object zero h = absurd (h refl)
holder_of-object (suc n) h = refl

-- nothing is open in no bits
pub nothing : (n b : ℕ) (ws : List ℕ) → n ≡ 0 → ws ≡ [] → in_word n b ++ in_words (reverse ws) ≡ []
unfolding in_word
nothing n b ws e f = rw (e, f) refl

pub top_of_word : (n b : ℕ) (r : List Holder) → 0 < n → top (in_word n b ++ r) ≡ holder_of (b % 2)
unfolding in_word
top_of_word zero b r h = absurd (omega arith)
top_of_word (suc n) b r h = refl

pub length-in_word : (n b : ℕ) → length (in_word n b) ≡ n
unfolding in_word
length-in_word zero b = refl
length-in_word (suc n) b = omega (arith, length-in_word n (b / 2))

pub length-in_words : (ws : List ℕ) → length (in_words ws) ≡ length ws * 64
length-in_words [] = refl
length-in_words (w ∷ ws) = omega (arith, length-append (in_word 64 w) (in_words ws), length-in_word 64 w, length-in_words ws)

pub length_all : (n b : ℕ) (ws : List ℕ) → length (in_word n b ++ in_words (reverse ws)) ≡ length ws * 64 + n
length_all n b ws = omega (arith, length-append (in_word n b) (in_words (reverse ws)), length-in_word n b, length-in_words (reverse ws), length-reverse ws)

-- a container more in the word
pub word_more : (n b x : ℕ) (r : List Holder) → x < 2 → in_word (n + 1) (b * 2 + x) ++ r ≡ holder_of x ∷ (in_word n b ++ r)
unfolding in_word
word_more n b x r h =
    let low : (b * 2 + x) % 2 ≡ x = omega arith in
    let high : (b * 2 + x) / 2 ≡ b = omega arith in
    rw (add-one n, low, high) refl

-- a container less in the word
pub word_less : (n b : ℕ) (r : List Holder) → 0 < n → without_top (in_word n b ++ r) ≡ in_word (n - 1) (b / 2) ++ r
unfolding in_word
word_less zero b r h = absurd (omega arith)
word_less (suc n) b r h = rw sub-one refl

-- a full word is put around an empty one
pub spilled : (n b : ℕ) (ws : List ℕ) → n ≡ 64 → in_words (reverse (ws ++ b ∷ [])) ≡ in_word n b ++ in_words (reverse ws)
spilled n b ws e = ap in_words (reverse-append ws (b ∷ [])) ∙ ap (λ k. in_word k b ++ in_words (reverse ws)) (sym e)

-- the first container of a new word
pub word_one : (x : ℕ) (r : List Holder) → x < 2 → in_word 1 x ++ r ≡ holder_of x ∷ r
unfolding in_word
word_one x r h = let low : x % 2 ≡ x = omega arith in rw low refl

-- the last container of a word leads to the full word around it
pub refilled : (n b w : ℕ) (vs ws : List ℕ) → n ≤ 1 → (n ≡ 0 → vs ≡ []) → vs ≡ ws ++ w ∷ [] → without_top (in_word n b ++ in_words (reverse vs)) ≡ in_word 64 w ++ in_words (reverse ws)
unfolding in_word
refilled zero b w vs ws h none f = absurd (let e : length (ws ++ w ∷ []) ≡ 0 = ap length (sym f ∙ none refl) in omega (arith, length-append ws (w ∷ [])))
refilled (suc zero) b w vs ws h none f = rw f (ap in_words (reverse-append ws (w ∷ [])))
refilled (suc (suc n)) b w vs ws h none f = absurd (omega arith)

-- or to none
pub emptied : (n b : ℕ) (vs : List ℕ) → n ≤ 1 → vs ≡ [] → without_top (in_word n b ++ in_words (reverse vs)) ≡ []
unfolding in_word
emptied zero b vs h f = rw f refl
emptied (suc zero) b vs h f = rw f refl
emptied (suc (suc n)) b vs h f = absurd (omega arith)

pub pushed : (g h : Holder) (s t : List Holder) → g ≡ h → s ≡ t → g ∷ s ≡ h ∷ t
pushed g h s t e f = cc
