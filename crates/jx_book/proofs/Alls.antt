-- What holds of each element.
use Rattle.std.proofs.Common.{◌≡◌, List, [], ◌∷◌, ◌++◌, length, subst, arith, length-append}
use Rattle.std.specs.Prelude.{All}
use Rattle.std.proofs.Math.Seq.{get_or-append_seam}
use Rattle.std.proofs.lemmas.List.{get_or_append_left}

module _ {X : Type 0} (P : X → Type 0) (xs : List X) (y : X) where
  pub all_front : All P (xs ++ y ∷ []) → All P xs
  all_front h k d low = subst P (get_or_append_left xs (y ∷ []) d k low) (h k d (omega (arith, length-append xs (y ∷ []))))

  pub all_last : All P (xs ++ y ∷ []) → P y
  all_last h = subst P (get_or-append_seam xs y [] y) (h (length xs) y (omega (arith, length-append xs (y ∷ []))))

-- the same of a list that is known to be that
module _ {X : Type 0} (P : X → Type 0) (zs xs : List X) (y : X) (is : zs ≡ xs ++ y ∷ []) where
  pub front_of : All P zs → All P xs
  front_of h = all_front P xs y (subst (All P) is h)

  pub last_of : All P zs → P y
  last_of h = all_last P xs y (subst (All P) is h)
