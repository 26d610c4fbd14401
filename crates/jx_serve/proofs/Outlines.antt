-- The first rows of those that begin before an offset.
use Rattle.std.proofs.Common.{◌≡◌, ℕ, ◌≤◌, min, List, length, map, take, sym, ap, ◌∙◌, arith, inl, inr, refl}
use Rattle.std.proofs.lemmas.Bool.{cases_lt}
use Rattle.std.proofs.lemmas.List.{length-take, take_all, take-take}
use Rattle.std.specs.Prelude.{None, Some}
use Rattle.jx_index.specs.ByNames.{IsVerdictBy, no_text, repeated_name}
use Rattle.jx_run.specs.Settings.{IsDocumentBy, JudgedBy}
use Rattle.jx_run.specs.Settings as by
use Rattle.jx_run.specs.Tree.{Tree}
use Rattle.jx_run.specs.declared.texts.settings.Settings.{Settings}
use Rattle.jx_run.specs.declared.texts.verdict.Refusal.{Refusal}
use Rattle.jx_run.specs.declared.texts.verdict.Verdict.TheVariants.{Accepted, Refused}
use Rattle.jx_complete.specs.Completed.{IsCompleted}
use Rattle.jx_serve.specs.Values.{any_names}

take_both : {A : Type 0} (xs : List A) (m n : ℕ) → take (min m n) xs ≡ take m (take n xs)
take_both xs m n =
    elim (cases_lt n m) [
      | inl less ↦ ap (λ k. take k xs) (let x : min m n ≡ n = omega arith in x) ∙ sym (take_all m (take n xs) (omega (arith, length-take n xs)))
      | inr more ↦ ap (λ k. take k xs) (let x : min m n ≡ m = omega arith in x) ∙ sym (take-take m n xs (omega arith))
    ]

pub first_of : {A B : Type 0} (f : A → B) (xs before : List A) (ys : List B) (m n count i : ℕ) → m ≡ min n count → take count xs ≡ before → length (take m xs) ≤ i → ys ≡ map f (take i (take m xs))
    → ys ≡ map f (take n before)
first_of f xs before ys m n count i e b h y = y ∙ ap (map f) (take_all i (take m xs) h ∙ ap (λ k. take k xs) e ∙ take_both xs n count ∙ ap (take n) b)

-- ---- a text is not refused, whatever its names

not_judged : (s : Settings) (text : List ℕ) (tree : Tree) (refusal : Refusal) → IsDocumentBy s 0 text tree → JudgedBy s 0 text (Refused refusal) → ⊥
not_judged s text tree _ d (by.cut_short none longest) = none tree d
not_judged s text tree _ d (by.too_deep none longest less deeper) = none tree d
not_judged s text tree _ d (by.stopped none longest less deeper) = none tree d

pub not_refused : (s : Settings) (text : List ℕ) (tree : Tree) (refusal : Refusal) → IsDocumentBy (any_names s) 0 text tree → IsVerdictBy (any_names s) text (Refused refusal) → ⊥
not_refused s text tree _ d (repeated_name {at = at} other is) = let x : Some at ≡ None = is in cc
not_refused s text tree refusal d (no_text judged) = not_judged (any_names s) text tree refusal d judged

-- bytes that are a text are completed as they are
pub whole_text : (s : Settings) (bytes : List ℕ) → JudgedBy s 0 bytes Accepted → IsCompleted s bytes bytes (length bytes)
whole_text s bytes (by.a_text {tree = t} d) = record { verdict = Accepted; judged = by.a_text d; kept_is = refl; tree = t; is_text = d; begins = refl; whole = λ e. refl }
