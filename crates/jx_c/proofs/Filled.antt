-- A buffer that is filled from its start.
use Rattle.std.proofs.Common.{◌≡◌, ℕ, ◌+◌, ◌<◌, ◌≤◌, List, [], ◌∷◌, ◌++◌, length, take, drop, get_or, set, map, sym, ◌∙◌, ap, subst, arith}
use Rattle.std.specs.Prelude.{min}
use Rattle.std.proofs.lemmas.List.{take_more_set, map_more, drop-set-lt}
use Rattle.jx_c.specs.Buffers.{IsFilled}

-- so many are shown, and what stands behind them is as it was
pub record IsFilledTo {X Y : Type 0} (show : Y → X) (n : ℕ) (old new : List X) (from : List Y) : Type 0 where
  pub long : length new ≡ length old
  pub shown_are : take n new ≡ map show (take n from)
  pub rest : (k : ℕ) → n ≤ k → drop k new ≡ drop k old

module _ {X Y : Type 0} (show : Y → X) (old new : List X) (from : List Y) where
  pub one_more : (n : ℕ) (v : X) (d : Y) → n < length new → n < length from → v ≡ show (get_or from n d) → IsFilledTo show n old new from
      → take (n + 1) (set new n v) ≡ map show (take (n + 1) from)
  one_more n v d room some is h =
      take_more_set new n v room
      ∙ ap (λ (xs : List X). xs ++ v ∷ []) h.shown_are
      ∙ ap (λ (w : X). map show (take n from) ++ w ∷ []) is
      ∙ sym (map_more show from n d some)

  pub rest_stays : (n : ℕ) (v : X) → IsFilledTo show n old new from → (k : ℕ) → n + 1 ≤ k → drop k (set new n v) ≡ drop k old
  rest_stays n v h k over = drop-set-lt k new n v (omega arith) ∙ h.rest k (omega arith)

  pub all_filled : (n : ℕ) → n ≡ min (length old) (length from) → IsFilledTo show n old new from → IsFilled show old new from
  all_filled n e h =
      record {
        shown_are = subst (λ (k : ℕ). take k new ≡ map show (take k from)) e h.shown_are;
        rest = λ k over. h.rest k (omega arith);
      }
