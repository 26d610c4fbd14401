-- The levels of an index, made one above the other.
use Rattle.std.proofs.Common.{◌≡◌, ℕ, zero, ◌<◌, List, [], ◌∷◌, ◌++◌, length, sym, ◌∙◌, ap, subst, append_assoc, append-nil, arith, Bool, false}
use Rattle.std.specs.Prelude.{◌==◌, slice_index_or}
use Rattle.std.proofs.lemmas.Bool.Decides.{nat_tests}
use Rattle.jx_file_index.specs.declared.entry.Entry.{Entry}
use Rattle.jx_file_index.specs.Chunks.{IsCount}
use Rattle.jx_file_index.specs.Index.{AreLevels, at_top, joined_of, level}

pub some_of : (n : ℕ) (b : Bool) → b ≡ (n == 0) → b ≡ false → 0 < n
some_of n b is e = let t : (n == 0) ≡ false = sym is ∙ e in grind (arith, nat_tests)

-- one level more is kept
pub level_more : (lowest kept es next : List Entry) (n : ℕ) → ((rest : List Entry) (top : Entry) → AreLevels es rest top → AreLevels lowest (kept ++ rest) top)
    → 1 < length es → IsCount 64 (length es) n → next ≡ joined_of es n
    → (rest : List Entry) (top : Entry) → AreLevels next rest top → AreLevels lowest ((kept ++ es) ++ rest) top
level_more lowest kept es next n so_far several counted is rest top h =
    subst (λ (xs : List Entry). AreLevels lowest xs top) (sym (append_assoc kept es rest))
    (so_far (es ++ rest) top (level several counted (subst (λ (xs : List Entry). AreLevels xs rest top) is h)))

-- the top is all that is left
single : (es : List Entry) (e : Entry) → length es ≡ 1 → e ≡ slice_index_or es zero e → es ≡ e ∷ []
single [] e h is = absurd (omega (arith, h))
single (x ∷ []) e h is = ap (λ (y : Entry). y ∷ []) (sym is)
single (x ∷ y ∷ es) e h is = absurd (omega (arith, h))

pub levels_end : (lowest kept es : List Entry) (e : Entry) → ((rest : List Entry) (top : Entry) → AreLevels es rest top → AreLevels lowest (kept ++ rest) top)
    → length es ≡ 1 → e ≡ slice_index_or es zero e → AreLevels lowest kept e
levels_end lowest kept es e so_far one is =
    subst (λ (xs : List Entry). AreLevels lowest xs e) (append-nil kept)
    (so_far [] e (subst (λ (xs : List Entry). AreLevels xs [] e) (sym (single es e one is)) at_top))
