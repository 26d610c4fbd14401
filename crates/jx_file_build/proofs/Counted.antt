-- Tokens of a chunk of which only the counts are known.
use Rattle.std.proofs.Common.{◌≡◌, ℕ, zero, suc, ◌+◌, ◌<◌, List, [], ◌∷◌, ◌++◌, length, refl, sym, ◌∙◌, ap, arith, Bool, true}
use Rattle.std.proofs.lemmas.List.Sums.{fold-append}
use Rattle.jx_lex.specs.declared.alphabet.mark.Mark.{Mark}
use Rattle.jx_lex.specs.declared.scanner.counts.TokenCounts.{TokenCounts}
use Rattle.jx_lex.specs.Counts.{HasCounts, number_of, is_comma}
use Rattle.jx_lex.specs.Seen.{Grows}
use Rattle.jx_file_index.specs.declared.sum.Sum.{Sum}
use Rattle.jx_file_index.specs.Chunks.{has_some}
use Rattle.jx_file_index.specs.Sums.{noted, nothing}
use Rattle.jx_file_index.proofs.Sums.{on_from}
use Rattle.jx_file_build.specs.inside.Tallied.{Tells}

some_behind : {A : Type 0} (xs ys : List A) → 0 < length ys → has_some (xs ++ ys) ≡ true
some_behind [] [] some = absurd (omega arith)
some_behind [] (y ∷ ys) some = refl
some_behind (x ∷ xs) ys some = refl

none_behind : {A : Type 0} (xs ys : List A) → length ys ≡ 0 → has_some (xs ++ ys) ≡ has_some xs
none_behind [] [] none = refl
none_behind [] (y ∷ ys) none = absurd (omega arith)
none_behind (x ∷ xs) ys none = refl

commas_are_some : (marks : List Mark) → 0 < number_of is_comma marks → 0 < length marks
commas_are_some [] some = absurd (omega arith)
commas_are_some (m ∷ marks) some = omega arith

-- tokens that have these counts
pub tells_counted : (s next : Sum) (b n ended : Bool) (counts : TokenCounts) (marks : List Mark) (ends : List ℕ) → HasCounts marks ends counts → 0 < counts.commas → next ≡ on_from s marks
    → (0 < counts.strings + counts.scalars → ended ≡ true) → (counts.strings + counts.scalars ≡ 0 → ended ≡ n) → Grows (λ ms es. Tells ms es s b n) (λ ms es. Tells ms es next true ended) marks ends
tells_counted s next b n ended counts marks ends h some is shown hidden = λ ms es t.
    let e = h.ended in
    record {
      sum_is = is ∙ ap (λ (s : Sum). on_from s marks) t.sum_is ∙ sym (fold-append (λ s mark. noted mark.kind s) nothing ms marks);
      begins_is = sym (some_behind ms marks (commas_are_some marks (let c = h.commas in omega (arith, c, some))));
      ends_is = by_number es (length ends) refl e t.ends_is;
    }
  where
    by_number : (es : List ℕ) (k : ℕ) → length ends ≡ k → length ends ≡ counts.strings + counts.scalars → n ≡ has_some es → ended ≡ has_some (es ++ ends)
    by_number es zero e f was = hidden (omega (arith, e, f)) ∙ was ∙ sym (none_behind es ends e)
    by_number es (suc k) e f was = shown (omega (arith, e, f)) ∙ sym (some_behind es ends (omega (arith, e)))
