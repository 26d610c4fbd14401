-- A stored run is no longer than all of them.
use Rattle.std.proofs.Common.{◌≡◌, ℕ, ◌+◌, ◌<◌, List, length, get_or, sym, ap, subst, arith, inl}
use Rattle.std.specs.Prelude.{sum_by}
use Rattle.std.proofs.lemmas.List.Sums.{get_or-le-sum_by}
use Rattle.jx_book.specs.declared.lock.book.FinishFault.{FinishFault}
use Rattle.jx_book.specs.declared.lock.book.FinishFault.TheVariants.{Other}
use Rattle.jx_book.specs.Runs.{HeldValue, run_len, IsApart}
use Rattle.jx_book.specs.Shares.{IsOther, IsOtherFrom, IsSizedAsStored}

module _ {S : Type 0} where
  pub sized : (xs : List (HeldValue S)) (i : ℕ) (r : HeldValue S) (put taken : ℕ) → IsApart xs → i < length xs → r ≡ get_or xs i r → sum_by run_len xs + taken ≡ put → IsSizedAsStored put taken (Other r)
  sized xs i r put taken h low is total =
      (subst (λ (x : HeldValue S). x.span.start < x.span.end) (sym is) (h.filled i r low), omega (arith, total, get_or-le-sum_by run_len xs i r low, ap run_len is))

  -- a fault of a finished book is one from any offset on
  pub other_from : (text : List ℕ) (depth front : ℕ) (f : FinishFault S) → IsOther text depth f → IsOtherFrom text depth front f
  other_from text depth front (Other r) h = inl h
