-- The containers around the innermost word.
use Rattle.std.proofs.Common.{◌≡◌, ◌∙◌, ℕ, zero, suc, ◌+◌, ◌-◌, ◌%◌, ◌<◌, ◌≤◌, ◌++◌, List, [], length, ap, arith, drop, refl}
use Rattle.std.specs.Prelude.{reverse}
use Rattle.std.proofs.Math.Seq.{drop-append_seam}
use Rattle.jx_reduce.specs.Bits.{in_word, in_words}
use Rattle.jx_reduce.specs.Containers.{outer}
use Rattle.jx_reduce.proofs.KnownWords.{length_all, length-in_word}

some_around : (n b : ℕ) (ws : List ℕ) → 0 < n → n ≤ 64 → outer (in_word n b ++ in_words (reverse ws)) ≡ in_words (reverse ws)
some_around n b ws some low =
    let s = in_word n b ++ in_words (reverse ws) in
    let count : (length s - 1) % 64 + 1 ≡ length (in_word n b) = omega (arith, length_all n b ws, length-in_word n b) in
    ap (λ (k : ℕ). drop k s) count ∙ drop-append_seam (in_word n b) (in_words (reverse ws))

-- the full words
pub words_around : (n b : ℕ) (ws : List ℕ) → n ≤ 64 → (n ≡ 0 → ws ≡ []) → outer (in_word n b ++ in_words (reverse ws)) ≡ in_words (reverse ws)
unfolding in_word
words_around zero b ws low none = rw (none refl) refl
words_around (suc n) b ws low none = some_around (suc n) b ws (omega arith) low
