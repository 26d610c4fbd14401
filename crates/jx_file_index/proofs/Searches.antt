-- What a search among rising keys tells.
use Rattle.std.proofs.Common.{◌≡◌, ◌<◌, ℕ, List, arith, inl, inr, length, ◌∙◌, false, Result, Ok, Err}
use Rattle.std.specs.Prelude.{Contains, is_ok, slice_index_or}
use Rattle.std.specs.Ordering.{nat_cmp}
use Rattle.std.specs.List.Sorted.{IsBinarySearchResult}
use Rattle.std.proofs.lemmas.Bool.{cases_lt}
use Rattle.std.proofs.lemmas.List.{get_or_default}
use Rattle.std.proofs.lemmas.List.Sorted.{searched}
use Rattle.jx_file_index.specs.NameTables.{AreRising}

pub not_found : (keys : List ℕ) (key : ℕ) (r : Result ℕ ℕ) → IsBinarySearchResult (λ y. nat_cmp y key) keys r → AreRising keys → is_ok r ≡ false → Contains keys key → ⊥
not_found keys key (Ok i) h rising none has = cc
not_found keys key (Err i) h rising none has =
    let s = searched keys key (Err i) h rising in
    let k = has.0 in
    let low : k < length keys = has.1 in
    let is : slice_index_or keys k 0 ≡ key = get_or_default keys k 0 key low ∙ has.2 in
    elim (cases_lt k i) [
      | inl lt ↦ let l : slice_index_or keys k 0 < key = s.1 k lt in omega (arith, l, is)
      | inr ge ↦ let l : key < slice_index_or keys k 0 = s.2 k ge low in omega (arith, l, is)
    ]
