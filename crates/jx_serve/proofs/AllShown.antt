-- What stands around each of the places so far.
use Rattle.std.proofs.Common.{ℕ, ◌+◌, ◌<◌, ◌≤◌, List, [], ◌∷◌, ◌++◌, length, take, sym, subst, get_or}
use Rattle.std.specs.List.{AllZip}
use Rattle.std.proofs.lemmas.List.{take_all, take_more}
use Rattle.std.proofs.lemmas.Slice.Zip.{all_zipped_more}

pub zip_more : {A B : Type 0} (R : A → B → Type 0) (xs : List A) (ys : List B) (i : ℕ) (d : A) (y : B) → i < length xs → AllZip R (take i xs) ys → R (get_or xs i d) y
    → AllZip R (take (i + 1) xs) (ys ++ y ∷ [])
zip_more {A} {B} R xs ys i d y low h r = subst (λ (zs : List A). AllZip R zs (ys ++ y ∷ [])) (sym (take_more xs i d low)) (all_zipped_more R (take i xs) ys (get_or xs i d) y h r)

pub zip_whole : {A B : Type 0} (R : A → B → Type 0) (xs : List A) (ys : List B) (i : ℕ) → length xs ≤ i → AllZip R (take i xs) ys → AllZip R xs ys
zip_whole {A} {B} R xs ys i past h = subst (λ (zs : List A). AllZip R zs ys) (take_all i xs past) h
