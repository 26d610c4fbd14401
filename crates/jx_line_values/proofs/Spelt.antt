-- Strings are read as pointers, one by one.
use Rattle.std.specs.Prelude.{Some, slice_get}
use Rattle.std.proofs.Common.{◌≡◌, ℕ, ◌+◌, ◌<◌, ◌≤◌, List, [], ◌∷◌, ◌++◌, length, take, get_or, sym, ap, subst, ◌∙◌}
use Rattle.std.specs.Prelude.{All}
use Rattle.std.proofs.lemmas.List.{take_all, take_more}
use Rattle.std.proofs.lemmas.List.Elements.{All-push}
use Rattle.std.proofs.lemmas.Option.{get_or_from_slice_get}
use Rattle.jx_index.specs.Pointers.{IsPointer}

module _ (spelt : List (List ℕ)) (place : ℕ) (word : List ℕ) (low : place < length spelt) (there : slice_get spelt place ≡ Some word) where
  is_there : get_or spelt place word ≡ word
  is_there = get_or_from_slice_get spelt place word word there

  longer : take (place + 1) spelt ≡ take place spelt ++ word ∷ []
  longer = take_more spelt place word low ∙ ap (λ (w : List ℕ). take place spelt ++ w ∷ []) is_there

  -- one more is a pointer
  pub one_more : IsPointer word → All IsPointer (take place spelt) → All IsPointer (take (place + 1) spelt)
  one_more is before = subst (All IsPointer) (sym longer) (All-push IsPointer (take place spelt) word before is)

  -- one more is read
  pub one_more_read : (out next : List (List ℕ)) (pointer : List ℕ) → out ≡ take place spelt → next ≡ out ++ pointer ∷ [] → pointer ≡ word → next ≡ take (place + 1) spelt
  one_more_read out next pointer before e is = e ∙ ap (λ (xs : List (List ℕ)). xs ++ pointer ∷ []) before ∙ ap (λ (w : List ℕ). take place spelt ++ w ∷ []) is ∙ sym longer

-- all were looked at
pub all_of : (spelt : List (List ℕ)) (place : ℕ) → length spelt ≤ place → All IsPointer (take place spelt) → All IsPointer spelt
all_of spelt place high all = subst (All IsPointer) (take_all place spelt high) all
