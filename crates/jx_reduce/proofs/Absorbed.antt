-- What a joined form answers with no eye to the depth.
use Rattle.std.proofs.Common.{◌≡◌, ℕ, ◌+◌, ◌<◌, ◌≤◌, List, [], ◌∷◌, ◌++◌, length, refl, ◌∙◌, ap, arith, append_assoc, Option, Some, None, nat_lt, if◌then◌else◌, Bool, true, false, length-append, inl, inr}
use Rattle.std.proofs.lemmas.Bool.{ltb-true, ltb-false, and_parts, and_cases, not-false}
use Rattle.std.specs.Prelude.{unwrap_or, is_some, IsTrue, not, ◌&&◌, ◌⊎◌}
use Rattle.jx_reduce.specs.Read.{top, without_top}
use Rattle.jx_reduce.specs.Form.{Form, Plain, beyond, fault_of, end_fault_of, unless, along, within, at_end, plain}
use Rattle.jx_reduce.specs.Join.{closed, filled_end, no_faults, Tail, halted, stop_or, with_tail, with_level, finished, passes, absorbed}
use Rattle.jx_reduce.proofs.Along.{along-append, along_same, unless_first, unless_filled, fault_of-merged, fault_of-filled, end_fault_of-closed, fault_of-no_faults, past}
use Rattle.jx_reduce.specs.declared.table.holder.Holder.{Holder}
use Rattle.jx_reduce.specs.declared.table.holder.Holder.TheVariants.{Array, Object, Bottom}
use Rattle.jx_reduce.specs.declared.forms.ended_level.EndedLevel.{EndedLevel}

-- a fault of an open container is one of every holder of the last level
plain-stop_or : (f : Option ℕ) (r k : Form) (s : List Holder) (c : List Holder → Plain)
    → plain k s ≡ along r.ended s (within r.last [] c)
    → plain (stop_or f r k) s ≡ along r.ended s (within r.last [] (λ u. unless f (c u)))
plain-stop_or None r k s c h = h
plain-stop_or (Some p) r k s c h =
    along_same r.ended s _ _ (λ u e.
    ap (λ o. unless o beyond) (fault_of-filled r.last p (top u)) ∙ unless_filled (fault_of r.last (top u)) p beyond)

plain-finished : (t : Tail) (os : List Holder) (r : Form) (s : List Holder)
    → plain (finished t os r) s ≡ along r.ended s (within r.last [] (λ u. past t (os ++ u)))
plain-finished t [] r s =
    along_same r.ended s _ _ (λ u e.
    ap (λ o. unless o (at_end t.exit (t.opens ++ u))) (fault_of-merged r.last t.last (top u))
    ∙ unless_first (fault_of r.last (top u)) (fault_of t.last (top u)) (at_end t.exit (t.opens ++ u)))
plain-finished t (o ∷ os) r s =
    plain-stop_or (fault_of t.last o) r (with_tail r t r.last (t.opens ++ o ∷ os)) s (λ u. at_end t.exit (t.opens ++ (o ∷ os ++ u)))
    (along_same r.ended s _ _ (λ u e.
    ap (λ v. unless (fault_of r.last (top u)) (at_end t.exit v)) (append_assoc t.opens (o ∷ os) u)))

-- one more level that ends, in the last level
level_ended : (r : Form) (e : EndedLevel) (s : List Holder) (c : List Holder → Plain)
    → along (r.ended ++ closed r.last e ∷ []) s (within no_faults [] c)
    ≡ along r.ended s (within r.last [] (λ u. unless (end_fault_of e (top u)) (c (without_top u))))
level_ended r e s c =
    along-append r.ended (closed r.last e ∷ []) s (within no_faults [] c)
    ∙ along_same r.ended s _ _ (λ u _.
    ap (λ o. unless (end_fault_of (closed r.last e) (top u)) (unless o (c (without_top u)))) (fault_of-no_faults (top (without_top u)))
    ∙ ap (λ o. unless o (c (without_top u))) (end_fault_of-closed r.last e (top u))
    ∙ unless_first (fault_of r.last (top u)) (end_fault_of e (top u)) (c (without_top u)))

-- no list of at most d containers gets past level d
level_too_low : (d : ℕ) (r : Form) (e : EndedLevel) (s : List Holder) (c : List Holder → Plain)
    → d ≤ length r.ended → length s ≤ d
    → plain (halted r (filled_end (closed r.last e))) s
    ≡ along r.ended s (within r.last [] (λ u. unless (end_fault_of e (top u)) (c (without_top u))))
level_too_low d r e s c low short = along_same r.ended s _ _ at where
  at : (u : List Holder) → length u + length r.ended ≡ length s
      → within (filled_end (closed r.last e)) [] (at_end None) u ≡ within r.last [] (λ u. unless (end_fault_of e (top u)) (c (without_top u))) u
  at [] h = unless_filled r.last.bottom e.bottom beyond
  at (x ∷ u) h = absurd (omega (arith, h))

unwrap_same : (o : Option ℕ) (q : ℕ) (a b : Plain) → IsTrue (is_some o) → unless (Some (unwrap_or o q)) a ≡ unless o b
unwrap_same None q a b h = cc
unwrap_same (Some p) q a b h = refl

stuck_at : (c : EndedLevel) (h : Holder) (a b : Plain) → (is_some c.array && is_some c.object) ≡ true → unless (fault_of (filled_end c) h) a ≡ unless (end_fault_of c h) b
stuck_at c Array a b e = unwrap_same c.array c.bottom a b (and_parts (is_some c.array) (is_some c.object) e).0
stuck_at c Object a b e = unwrap_same c.object c.bottom a b (and_parts (is_some c.array) (is_some c.object) e).1
stuck_at c Bottom a b e = refl

-- nor does any list pass where no holder ends the level
level_stuck : (r : Form) (e : EndedLevel) (s : List Holder) (c : List Holder → Plain) → (is_some (closed r.last e).array && is_some (closed r.last e).object) ≡ true
    → plain (halted r (filled_end (closed r.last e))) s ≡ along r.ended s (within r.last [] (λ u. unless (end_fault_of e (top u)) (c (without_top u))))
level_stuck r e s c h =
    along_same r.ended s _ _ (λ u _.
    stuck_at (closed r.last e) (top u) beyond (c (without_top u)) h
    ∙ ap (λ o. unless o (c (without_top u))) (end_fault_of-closed r.last e (top u))
    ∙ unless_first (fault_of r.last (top u)) (end_fault_of e (top u)) (c (without_top u)))

pub room_below : (d : ℕ) (r : Form) (c : EndedLevel) → passes d r c ≡ true → length r.ended < d
room_below d r c h = ltb-true _ _ (and_parts (nat_lt (length r.ended) d) (not (is_some c.array && is_some c.object)) h).0

no_room : (d : ℕ) (r : Form) (e : EndedLevel) (s : List Holder) (c : List Holder → Plain) → length s ≤ d
    → (nat_lt (length r.ended) d ≡ false) ⊎ (not (is_some (closed r.last e).array && is_some (closed r.last e).object) ≡ false)
    → plain (halted r (filled_end (closed r.last e))) s ≡ along r.ended s (within r.last [] (λ u. unless (end_fault_of e (top u)) (c (without_top u))))
no_room d r e s c short (inl h) = level_too_low d r e s c (ltb-false _ _ h) short
no_room d r e s c short (inr h) = level_stuck r e s c (not-false _ h)

pub plain-absorbed : (d : ℕ) (es : List EndedLevel) (t : Tail) (os : List Holder) (r : Form) (s : List Holder)
    → length r.ended ≤ d → length s ≤ d
    → plain (absorbed d es t os r) s ≡ along r.ended s (within r.last [] (λ u. along es (os ++ u) (past t)))
plain-absorbed d [] t os r s few short = plain-finished t os r s
plain-absorbed d (e ∷ es) t (o ∷ os) r s few short =
    plain-stop_or (end_fault_of e o) r (absorbed d es t os r) s (λ u. along es (os ++ u) (past t)) (plain-absorbed d es t os r s few short)
plain-absorbed d (e ∷ es) t [] r s few short =
    let room : (b : Bool) → passes d r (closed r.last e) ≡ b
    → plain (if b then absorbed d es t [] (with_level r (closed r.last e)) else halted r (filled_end (closed r.last e))) s
    ≡ along r.ended s (within r.last [] (λ u. along (e ∷ es) u (past t)))
    = λ b. elim b as (λ b. passes d r (closed r.last e) ≡ b
    → plain (if b then absorbed d es t [] (with_level r (closed r.last e)) else halted r (filled_end (closed r.last e))) s
    ≡ along r.ended s (within r.last [] (λ u. along (e ∷ es) u (past t)))) [
      | true ↦ λ h. plain-absorbed d es t [] (with_level r (closed r.last e)) s (simp length-append (let l = room_below d r (closed r.last e) h in omega (arith, l))) short
          ∙ level_ended r e s (λ u. along es u (past t))
      | false ↦ λ h. no_room d r e s (λ u. along es u (past t)) short (and_cases (nat_lt (length r.ended) d) (not (is_some (closed r.last e).array && is_some (closed r.last e).object)) h)
    ]
    in room (passes d r (closed r.last e)) refl
