-- Structures of marks that lie in known spans.
use Rattle.std.proofs.Common.{ℕ, ◌<◌, ◌≤◌, List, [], ◌∷◌, arith}
use Rattle.jx_reduce.specs.Form.{Form}
use Rattle.jx_reduce.specs.Offsets.{EachIn, EndIn, OffsetsIn}
use Rattle.jx_reduce.specs.Reductions.{Forms, form_at, IsBefore, SpansIn}
use Rattle.jx_reduce.proofs.Readings.{OffsetsIn_more}

-- a structure of a span may be joined with one of the span behind it
pub before_of_spans : (low between high : ℕ) (l r : Forms) → SpansIn low between l → SpansIn between high r → IsBefore l r
before_of_spans low between high l r a b =
    record {
      between = between;
      left = λ x. OffsetsIn_more (λ p. (low ≤ p) × (p < between)) (λ p. p < between) (form_at l x) (λ p h. h.1) (a x);
      right = λ x. OffsetsIn_more (λ p. (between ≤ p) × (p < high)) (λ p. between ≤ p) (form_at r x) (λ p h. h.0) (b x);
    }

pub each_any : {X : Type 0} (Q : X → Type 0) → ((x : X) → Q x) → (xs : List X) → EachIn Q xs
each_any Q h [] = tt
each_any Q h (x ∷ xs) = (h x, each_any Q h xs)

pub anywhere : (f : Form) → OffsetsIn (λ p. 0 ≤ p) f
anywhere f =
    record {
      ended = each_any (EndIn (λ p. 0 ≤ p)) (λ e h p i. omega arith) f.ended;
      last = λ h p i. omega arith;
      heights = each_any (λ p. 0 ≤ p) (λ p. omega arith) f.heights;
    }

-- a structure that keeps no offset may be joined with any
pub before_any : (l r : Forms) → SpansIn 0 0 l → IsBefore l r
before_any l r a =
    record {
      between = 0;
      left = λ x. OffsetsIn_more (λ p. (0 ≤ p) × (p < 0)) (λ p. p < 0) (form_at l x) (λ p h. h.1) (a x);
      right = λ x. anywhere (form_at r x);
    }

pub SpansIn_wider : (low high low' high' : ℕ) (f : Forms) → low' ≤ low → high ≤ high' → SpansIn low high f → SpansIn low' high' f
SpansIn_wider low high low' high' f below above a x =
    OffsetsIn_more (λ p. (low ≤ p) × (p < high)) (λ p. (low' ≤ p) × (p < high')) (form_at f x) (λ p h. (omega (arith, below, h.0), omega (arith, above, h.1))) (a x)
