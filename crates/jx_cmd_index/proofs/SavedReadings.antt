-- What is saved is read in two parts, which are all of it.
use Rattle.std.specs.Prelude.{Option, None, Some}
use Rattle.std.proofs.Common.{◌≡◌, ℕ, List, ◌++◌, sym, ap, subst, ◌∙◌, append-nil}
use Rattle.std.specs.Io.KnownBytes.{Consumes, IsAtEnd}
use Rattle.std.proofs.KnownBytes.{Consumes-trans}
use Rattle.jx_ends.specs.Ends.{ReadsToEnd}
use Rattle.jx_file_index.specs.declared.saved_text.SavedText.{SavedText}
use Rattle.jx_file_index.specs.SavedTexts.{IsSavableToo, SaysSameToo}
use Rattle.jx_file_index.specs.TextSpelling.{spelt_saved}

all_known : (o n : Option (List ℕ)) (xs ys : List ℕ) → o ≡ Some xs → ReadsToEnd o n ys → xs ≡ ys
all_known None n xs ys e h = absurd (cc)
all_known (Some zs) None xs ys e h = absurd (h.0)
all_known (Some zs) (Some ws) xs ys e h =
    let same : zs ≡ xs = cc in
    sym same ∙ h.0 ∙ ap (λ (l : List ℕ). ys ++ l) h.1 ∙ append-nil ys

module _ (old mid new : Option (List ℕ)) (head rest bytes : List ℕ) (first : Consumes old mid head) (second : Consumes mid new rest) (joined : bytes ≡ head ++ rest) (ended : IsAtEnd new)
    (read : SavedText) (found : spelt_saved read ≡ bytes) where
  pub reads_to_end : ReadsToEnd old new (spelt_saved read)
  reads_to_end = (subst (λ (xs : List ℕ). Consumes old new xs) (sym (found ∙ joined)) (Consumes-trans old mid new head rest first second), ended)

  pub says : ((s : SavedText) → IsSavableToo s → bytes ≡ spelt_saved s → SaysSameToo read s) → (s : SavedText) → IsSavableToo s → old ≡ Some (spelt_saved s) → SaysSameToo read s
  says reads s savable e = reads s savable (sym found ∙ sym (all_known old new (spelt_saved s) (spelt_saved read) e reads_to_end))
