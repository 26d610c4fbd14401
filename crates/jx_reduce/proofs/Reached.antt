-- A reading of levels halts, or reaches the last level with some containers left.
use Rattle.std.proofs.Common.{◌≡◌, ℕ, zero, suc, ◌+◌, ◌-◌, ◌<◌, ◌≤◌, List, [], ◌∷◌, ◌++◌, length, take, drop, refl, ◌∙◌, ap, arith, Option, Some, None, length-append}
use Rattle.std.specs.Prelude.{slice_get}
use Rattle.jx_reduce.specs.Read.{top}
use Rattle.jx_reduce.specs.Form.{Form, Plain, halt, fault_of, end_fault_of, unless, along, within, leading}
use Rattle.jx_reduce.specs.declared.table.holder.Holder.{Holder}
use Rattle.jx_reduce.specs.declared.forms.ended_level.EndedLevel.{EndedLevel}

pub data Led : List EndedLevel → List Holder → Type 0 where
  stops : {xs : List EndedLevel} {s : List Holder} → (p : ℕ) → ((k : List Holder → Plain) → along xs s k ≡ halt p) → Led xs s
  goes_on : {xs : List EndedLevel} {s : List Holder} → (t : List Holder) → length t + length xs ≡ length s → ((k : List Holder → Plain) → along xs s k ≡ k t) → Led xs s

led_at : (x : EndedLevel) (xs : List EndedLevel) (y : Holder) (s : List Holder) (o : Option ℕ) → end_fault_of x y ≡ o → Led xs s → Led (x ∷ xs) (y ∷ s)
led_at x xs y s (Some p) e _ = stops p (λ k. ap (λ o. unless o (along xs s k)) e)
led_at x xs y s None e (stops p h) = stops p (λ k. ap (λ o. unless o (along xs s k)) e ∙ h k)
led_at x xs y s None e (goes_on t n h) = goes_on t (omega (arith, n)) (λ k. ap (λ o. unless o (along xs s k)) e ∙ h k)

pub led : (xs : List EndedLevel) (s : List Holder) → Led xs s
led [] s = goes_on s (omega arith) (λ k. refl)
led (x ∷ xs) [] = stops x.bottom (λ k. refl)
led (x ∷ xs) (y ∷ s) = led_at x xs y s (end_fault_of x y) refl (led xs s)

pub data Reached : Form → List Holder → Type 0 where
  halts : {l : Form} {s : List Holder} → (p : ℕ) → ((k : List Holder → Plain) → leading l k s ≡ halt p) → Reached l s
  reaches : {l : Form} {s : List Holder} → (t : List Holder) → length t + length l.ended ≡ length l.opens + length s → length l.ended ≤ length s → ((k : List Holder → Plain) → leading l k s ≡ k t) → Reached l s

reached_at : (l : Form) (s t : List Holder) (o : Option ℕ) → fault_of l.last (top t) ≡ o → length t + length l.ended ≡ length s
    → ((k : List Holder → Plain) → leading l k s ≡ within l.last l.opens k t) → Reached l s
reached_at l s t (Some p) e n h = halts p (λ k. h k ∙ ap (λ o. unless o (k (l.opens ++ t))) e)
reached_at l s t None e n h = reaches (l.opens ++ t) (omega (arith, n, length-append l.opens t)) (omega (arith, n)) (λ k. h k ∙ ap (λ o. unless o (k (l.opens ++ t))) e)

reached_from : (l : Form) (s : List Holder) → Led l.ended s → Reached l s
reached_from l s (stops p h) = halts p (λ k. h (within l.last l.opens k))
reached_from l s (goes_on t n h) = reached_at l s t (fault_of l.last (top t)) refl n (λ k. h (within l.last l.opens k))

pub reached : (l : Form) (s : List Holder) → Reached l s
reached l s = reached_from l s (led l.ended s)

-- elements of lists that are joined and cut
pub slice_get-take : {X : Type 0} (n : ℕ) (xs : List X) (i : ℕ) → i < n → slice_get (take n xs) i ≡ slice_get xs i
slice_get-take zero xs i h = absurd (omega (arith, h))
slice_get-take (suc n) [] i h = refl
slice_get-take (suc n) (x ∷ xs) zero h = refl
slice_get-take (suc n) (x ∷ xs) (suc i) h = slice_get-take n xs i (omega (arith, h))

pub slice_get-append_some : {X : Type 0} (xs ys : List X) (i : ℕ) (q : X) → slice_get xs i ≡ Some q → slice_get (xs ++ ys) i ≡ Some q
slice_get-append_some [] ys i q h = cc
slice_get-append_some (x ∷ xs) ys zero q h = h
slice_get-append_some (x ∷ xs) ys (suc i) q h = slice_get-append_some xs ys i q h

pub slice_get-append_none : {X : Type 0} (xs ys : List X) (i : ℕ) → slice_get xs i ≡ None → slice_get (xs ++ ys) i ≡ slice_get ys (i - length xs)
slice_get-append_none [] ys i h = let e : i - 0 ≡ i = omega arith in rw e
slice_get-append_none (x ∷ xs) ys zero h = cc
slice_get-append_none (x ∷ xs) ys (suc i) h = let e : suc i - suc (length xs) ≡ i - length xs = omega arith in rw e (slice_get-append_none xs ys i h)

pub slice_get-drop : {X : Type 0} (n : ℕ) (xs : List X) (i : ℕ) → slice_get (drop n xs) i ≡ slice_get xs (n + i)
slice_get-drop zero xs i = let e : 0 + i ≡ i = omega arith in rw e
slice_get-drop (suc n) [] i = refl
slice_get-drop (suc n) (x ∷ xs) i = let e : suc n + i ≡ suc (n + i) = omega arith in rw e (slice_get-drop n xs i)

pub slice_get_none : {X : Type 0} (xs : List X) (i : ℕ) → slice_get xs i ≡ None → length xs ≤ i
slice_get_none [] i h = omega arith
slice_get_none (x ∷ xs) zero h = cc
slice_get_none (x ∷ xs) (suc i) h = omega (arith, slice_get_none xs i h)
