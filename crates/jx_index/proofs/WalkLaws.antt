-- A walk step by step.
use Rattle.std.proofs.Common.{◌≡◌, ℕ, zero, suc, ◌-◌, ◌<◌, ◌≤◌, List, [], ◌∷◌, length, true, false, cond, refl, sym, ap, ◌∙◌, arith, inl, inr, ◌⊎◌}
use Rattle.std.specs.Prelude.{nat_lt, slice_index}
use Rattle.std.proofs.lemmas.Bool.Decides.{nat_tests}
use Rattle.std.proofs.lemmas.List.{get_or_past}
use Rattle.jx_index.specs.Walk.{IsForward, walk, walk_to, walk_children}

pub le_or : (a b : ℕ) → (a ≤ b) ⊎ (b < a)
le_or zero b = inl (omega arith)
le_or (suc a) zero = inr (omega arith)
le_or (suc a) (suc b) = elim (le_or a b) [ inl h ↦ inl (omega (arith, h)) | inr h ↦ inr (omega (arith, h)) ]

walk_stops : (after : List ℕ) (steps next end : ℕ) → end ≤ next → walk after steps next end ≡ []
walk_stops after zero next end h = refl
walk_stops after (suc steps) next end h =
    let t : nat_lt next end ≡ false = grind (arith, nat_tests) in ap (λ c. cond c (next ∷ walk after steps (slice_index after next) end) []) t

walk_goes : (after : List ℕ) (steps next end : ℕ) → next < end → walk after (suc steps) next end ≡ next ∷ walk after steps (slice_index after next) end
walk_goes after steps next end h =
    let t : nat_lt next end ≡ true = grind (arith, nat_tests) in ap (λ c. cond c (next ∷ walk after steps (slice_index after next) end) []) t

-- more steps than are needed change nothing
walk_enough : (after : List ℕ) → IsForward after → (f g next end : ℕ) → end ≤ length after → end - next ≤ f → end - next ≤ g → walk after f next end ≡ walk after g next end
walk_enough after w zero g next end h k l = sym (walk_stops after g next end (omega arith))
walk_enough after w (suc f) zero next end h k l = walk_stops after (suc f) next end (omega arith)
walk_enough after w (suc f) (suc g) next end h k l =
    elim (le_or end next) [
      | inl le ↦ walk_stops after (suc f) next end le ∙ sym (walk_stops after (suc g) next end le)
      | inr lt ↦ (
          let later : next < slice_index after next = w next (omega arith) in
          walk_goes after f next end lt
          ∙ ap (λ x. next ∷ x) (walk_enough after w f g (slice_index after next) end h (omega arith) (omega arith))
          ∙ sym (walk_goes after g next end lt))
    ]

pub walk_none : (after : List ℕ) (next end : ℕ) → end ≤ next → walk_to after next end ≡ []
walk_none after next end h = walk_stops after (end - next) next end h

pub walk_step : (after : List ℕ) (next end : ℕ) → IsForward after → end ≤ length after → next < end → walk_to after next end ≡ next ∷ walk_to after (slice_index after next) end
walk_step after next end w h lt =
    let later : next < slice_index after next = w next (omega arith) in
    let e : end - next ≡ suc (end - next - 1) = omega arith in
    ap (λ n. walk after n next end) e
    ∙ walk_goes after (end - next - 1) next end lt
    ∙ ap (λ x. next ∷ x) (walk_enough after w (end - next - 1) (end - slice_index after next) (slice_index after next) end h (omega arith) (omega arith))

-- a number that no row has
pub walk_past : (after : List ℕ) (node : ℕ) → length after ≤ node → walk_children after node ≡ []
walk_past after node h = walk_none after (suc node) (slice_index after node) (omega (arith, get_or_past after node 0 h))
