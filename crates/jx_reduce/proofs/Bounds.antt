-- Bounds and offsets of joined forms.
use Rattle.std.proofs.Common.{◌≡◌, ℕ, zero, suc, ◌+◌, ◌<◌, ◌≤◌, List, [], ◌∷◌, ◌++◌, length, take, drop, refl, sym, ◌∙◌, ap, subst, arith, Option, Some, None, nat_lt, if◌then◌else◌, Bool, true, false, length-append, length-take, length-drop, inl, inr, ◌⊎◌, ◌&&◌, is_some}
use Rattle.std.proofs.lemmas.Bool.{ltb-true, ltb-false, cases_lt, or_cases, and_left, and_right}
use Rattle.std.specs.Prelude.{slice_get, unwrap_or, is_some, IsTrue, ◌||◌, ◌&&◌, ◌⊎◌}
use Rattle.std.proofs.lemmas.Option.{same_Some}
use Rattle.jx_reduce.specs.Read.{top, without_top}
use Rattle.jx_reduce.specs.Form.{Form, Plain, halt, fault_of, end_fault_of, unless, along, within, at_end, plain}
use Rattle.jx_reduce.specs.Join.{first_of, closed, filled, filled_end, merged, no_faults, Tail, tail_of, halted, stop_or, with_tail, with_level, passes, absorbed, all_faulted, over, cut_short, joined}
use Rattle.jx_reduce.specs.Fits.{Fits}
use Rattle.jx_reduce.specs.Offsets.{FaultsIn, EndIn, EachIn, OffsetsIn}
use Rattle.jx_reduce.proofs.Along.{fault_of-merged, fault_of-filled, end_fault_of-closed}
use Rattle.jx_reduce.proofs.Joined.{counted, few-absorbed, heights-absorbed, base_of, uncut, AreApart, high, halts_all}
use Rattle.jx_reduce.specs.declared.table.holder.Holder.{Holder}
use Rattle.jx_reduce.specs.declared.table.holder.Holder.TheVariants.{Array, Object, Bottom}
use Rattle.jx_reduce.specs.declared.forms.entry.Entry.{Entry}
use Rattle.jx_reduce.specs.declared.forms.level.Level.{Level}
use Rattle.jx_reduce.specs.declared.forms.ended_level.EndedLevel.{EndedLevel}

neither : (x y : Bool) → (x || y) ≡ false → x ≡ false
neither true y e = cc
neither false y e = refl

-- merged and filled faults
all_some : (x y z : Option ℕ) → IsTrue (is_some x) → IsTrue (is_some y) → IsTrue (is_some z) → ((is_some x && is_some y) && is_some z) ≡ true
all_some (Some x) (Some y) (Some z) a b c = refl
all_some None y z a b c = cc
all_some (Some x) None z a b c = cc
all_some (Some x) (Some y) None a b c = cc

first_some : (a b : Option ℕ) → IsTrue (is_some b) → IsTrue (is_some (first_of a b))
first_some None b h = h
first_some (Some p) b h = refl

pub all_merged : (a b : Level) → all_faulted b ≡ true → all_faulted (merged a b) ≡ true
all_merged a b h =
    let g = halts_all b.array b.object b.bottom h in
    all_some _ _ _ (first_some a.array b.array g.0.0) (first_some a.object b.object g.0.1) (first_some a.bottom b.bottom g.1)

-- where an absorbed form has no exit, all have faulted, or it is over the depth
abbrev Exitless : Tail → ℕ → ℕ → Form → Type 0
Exitless t more base a = a.exit ≡ None → (all_faulted a.last ≡ true) ⊎ ((t.exit ≡ None) × ((all_faulted t.last ≡ false) × (base ≤ length a.ended + more)))

exitless_stop : (f : Option ℕ) (r k : Form) (t : Tail) (more base : ℕ) → Exitless t more base k → Exitless t more base (stop_or f r k)
exitless_stop None r k t more base h = h
exitless_stop (Some p) r k t more base h = λ e. inl refl

exitless_end : (t : Tail) (r : Form) (b : Bool) → all_faulted t.last ≡ b → Exitless t (length {A = Holder} []) (length r.ended + length {A = EndedLevel} []) (with_tail r t (merged r.last t.last) t.opens)
exitless_end t r true h = λ e. inl (all_merged r.last t.last h)
exitless_end t r false h = λ e. inr (e, (h, omega arith))

some_left : (f : Level) (o : Holder) → fault_of f o ≡ None → all_faulted f ≡ false
some_left f Array h = and_left _ (is_some f.bottom) (and_left _ (is_some f.object) (ap is_some h))
some_left f Object h = and_left _ (is_some f.bottom) (and_right (is_some f.array) _ (ap is_some h))
some_left f Bottom h = and_right (is_some f.array && is_some f.object) _ (ap is_some h)

exitless_in : (t : Tail) (o : Holder) (os : List Holder) (r : Form) (f : Option ℕ) → fault_of t.last o ≡ f
    → Exitless t (length (o ∷ os)) (length r.ended + length {A = EndedLevel} []) (stop_or f r (with_tail r t r.last (t.opens ++ o ∷ os)))
exitless_in t o os r (Some p) h = λ e. inl refl
exitless_in t o os r None h = λ e. inr (e, (some_left t.last o h, omega arith))

more_left : (t : Tail) (more base more' base' : ℕ) (a : Form) → base' + more ≤ base + more' → Exitless t more base a → Exitless t more' base' a
more_left t more base more' base' a h f = λ e. at (f e) where
  at : (all_faulted a.last ≡ true) ⊎ ((t.exit ≡ None) × ((all_faulted t.last ≡ false) × (base ≤ length a.ended + more)))
      → (all_faulted a.last ≡ true) ⊎ ((t.exit ≡ None) × ((all_faulted t.last ≡ false) × (base' ≤ length a.ended + more')))
  at (inl x) = inl x
  at (inr x) = inr (x.0, (x.1.0, let b = x.1.1 in omega (arith, b)))

exitless : (d : ℕ) (es : List EndedLevel) (t : Tail) (os : List Holder) (r : Form) → Exitless t (length os) (length r.ended + length es) (absorbed d es t os r)
exitless d [] t [] r = exitless_end t r (all_faulted t.last) refl
exitless d [] t (o ∷ os) r = exitless_in t o os r (fault_of t.last o) refl
exitless d (e ∷ es) t (o ∷ os) r =
    exitless_stop (end_fault_of e o) r (absorbed d es t os r) t _ _ (more_left t (length os) (length r.ended + length es) _ _ (absorbed d es t os r) (omega arith) (exitless d es t os r))
exitless d (e ∷ es) t [] r =
    elim (passes d r (closed r.last e)) as (λ b. Exitless t (length {A = Holder} []) (length r.ended + length (e ∷ es)) (if b then absorbed d es t [] (with_level r (closed r.last e)) else halted r (filled_end (closed r.last e)))) [
      | true ↦ more_left t _ _ _ _ (absorbed d es t [] (with_level r (closed r.last e))) (omega (arith, length-append r.ended (closed r.last e ∷ []))) (exitless d es t [] (with_level r (closed r.last e)))
      | false ↦ λ _. inl refl
    ]

-- a join stays within the depth
pub Fits-joined : (d : ℕ) (l r : Form) → Fits d l → length r.opens ≤ length r.ended + length r.heights
    → (r.exit ≡ None → all_faulted r.last ≡ false → d < length r.ended + length r.heights) → Fits d (joined d l r)
Fits-joined d l r f g x = at (over d (uncut d l r)) refl where
  low : length (uncut d l r).ended ≤ d
  low = few-absorbed d r.ended (tail_of r) l.opens (base_of d l r.heights) f.levels

  few : length (uncut d l r).heights ≤ d + 1
  few = rw (heights-absorbed d r.ended (tail_of r) l.opens (base_of d l r.heights)) (simp (length-take, length-append, length-drop) (omega arith))

  short : length (uncut d l r).opens ≤ d → length (uncut d l r).opens ≤ length (uncut d l r).ended + length (uncut d l r).heights
  short h = rw (heights-absorbed d r.ended (tail_of r) l.opens (base_of d l r.heights))
      (simp (length-take, length-append, length-drop) (elim (cases_lt 0 (length (uncut d l r).opens)) [
        | inl some ↦ omega (arith, f.risen, counted d r.ended (tail_of r) l.opens (base_of d l r.heights) some)
        | inr none ↦ omega arith
      ]))

  tall : d < length r.ended + length r.heights → length l.ended + length r.ended ≤ length (uncut d l r).ended + length l.opens → d < length (uncut d l r).ended + length (uncut d l r).heights
  tall a b = rw (heights-absorbed d r.ended (tail_of r) l.opens (base_of d l r.heights)) (simp (length-take, length-append, length-drop) (omega (arith, f.risen, a, b)))

  over_cases : (nat_lt d (length (uncut d l r).opens) ≡ true) ⊎ (all_faulted (uncut d l r).last ≡ true) → all_faulted (uncut d l r).last ≡ false → d < length (uncut d l r).ended + length (uncut d l r).heights
  over_cases (inl e) n = high d l r f.risen g (ltb-true _ _ e)
  over_cases (inr e) n = cc

  end_cases : (all_faulted (uncut d l r).last ≡ true) ⊎ ((r.exit ≡ None) × ((all_faulted r.last ≡ false) × (length l.ended + length r.ended ≤ length (uncut d l r).ended + length l.opens)))
      → all_faulted (uncut d l r).last ≡ false → d < length (uncut d l r).ended + length (uncut d l r).heights
  end_cases (inl e) n = cc
  end_cases (inr e) n = tall (x e.0 e.1.0) e.1.1

  at : (b : Bool) → over d (uncut d l r) ≡ b → Fits d (if b then cut_short (uncut d l r) else uncut d l r)
  at true e = record { levels = low; opens = omega arith; heights = few; risen = omega arith; decided = λ _. over_cases (or_cases (nat_lt d (length (uncut d l r).opens)) (all_faulted (uncut d l r).last) e) }
  at false e =
      let h : length (uncut d l r).opens ≤ d = ltb-false _ _ (neither (nat_lt d (length (uncut d l r).opens)) (all_faulted (uncut d l r).last) e)
      in record { levels = low; opens = h; heights = few; risen = short h; decided = λ n. end_cases (exitless d r.ended (tail_of r) l.opens (base_of d l r.heights) n) }

-- elements of lists that are joined and cut
pub EachIn-append : {X : Type 0} (Q : X → Type 0) (xs ys : List X) → EachIn Q xs → EachIn Q ys → EachIn Q (xs ++ ys)
EachIn-append Q [] ys a b = b
EachIn-append Q (x ∷ xs) ys a b = (a.0, EachIn-append Q xs ys a.1 b)

pub EachIn-take : {X : Type 0} (Q : X → Type 0) (n : ℕ) (xs : List X) → EachIn Q xs → EachIn Q (take n xs)
EachIn-take Q zero xs a = tt
EachIn-take Q (suc n) [] a = tt
EachIn-take Q (suc n) (x ∷ xs) a = (a.0, EachIn-take Q n xs a.1)

pub EachIn-drop : {X : Type 0} (Q : X → Type 0) (n : ℕ) (xs : List X) → EachIn Q xs → EachIn Q (drop n xs)
EachIn-drop Q zero xs a = a
EachIn-drop Q (suc n) [] a = tt
EachIn-drop Q (suc n) (x ∷ xs) a = EachIn-drop Q n xs a.1

pub EachIn-get : (Q : ℕ → Type 0) (xs : List ℕ) (i q : ℕ) → EachIn Q xs → slice_get xs i ≡ Some q → Q q
EachIn-get Q [] i q a h = cc
EachIn-get Q (x ∷ xs) zero q a h = subst Q (same_Some x q h) a.0
EachIn-get Q (x ∷ xs) (suc i) q a h = EachIn-get Q xs i q a.1 h

-- offsets of merged faults
first_in : (Q : ℕ → Type 0) (a b : Option ℕ) (p : ℕ) → (a ≡ Some p → Q p) → (b ≡ Some p → Q p) → first_of a b ≡ Some p → Q p
first_in Q None b p f g h = g h
first_in Q (Some q) b p f g h = f h

unwrap_in : (Q : ℕ → Type 0) (a : Option ℕ) (q p : ℕ) → (a ≡ Some p → Q p) → Q q → ◌≡◌ {A = Option ℕ} (Some (unwrap_or a q)) (Some p) → Q p
unwrap_in Q None q p f g h = subst Q (same_Some q p h) g
unwrap_in Q (Some r) q p f g h = f h

merged_in : (Q : ℕ → Type 0) (a b : Level) → FaultsIn Q a → FaultsIn Q b → FaultsIn Q (merged a b)
merged_in Q a b f g h p e = first_in Q (fault_of a h) (fault_of b h) p (f h p) (g h p) (sym (fault_of-merged a b h) ∙ e)

filled_in : (Q : ℕ → Type 0) (a : Level) (q : ℕ) → FaultsIn Q a → Q q → FaultsIn Q (filled a q)
filled_in Q a q f g h p e = unwrap_in Q (fault_of a h) q p (f h p) g (sym (fault_of-filled a q h) ∙ e)

closed_in : (Q : ℕ → Type 0) (a : Level) (b : EndedLevel) → FaultsIn Q a → EndIn Q b → EndIn Q (closed a b)
closed_in Q a b f g h p e = first_in Q (fault_of a h) (end_fault_of b h) p (f h p) (g h p) (sym (end_fault_of-closed a b h) ∙ e)

end_in : (Q : ℕ → Type 0) (a : EndedLevel) → EndIn Q a → FaultsIn Q (filled_end a)
end_in Q a f Array p e = unwrap_in Q a.array a.bottom p (f Array p) (f Bottom a.bottom refl) e
end_in Q a f Object p e = unwrap_in Q a.object a.bottom p (f Object p) (f Bottom a.bottom refl) e
end_in Q a f Bottom p e = f Bottom p e

pub none_in : (Q : ℕ → Type 0) → FaultsIn Q no_faults
none_in Q Array p e = cc
none_in Q Object p e = cc
none_in Q Bottom p e = cc

-- the levels of a form
abbrev LevelsIn : (ℕ → Type 0) → Form → Type 0
LevelsIn Q r = EachIn (EndIn Q) r.ended × FaultsIn Q r.last

stop_in : (Q : ℕ → Type 0) (f : Option ℕ) (r k : Form) → ((p : ℕ) → f ≡ Some p → Q p) → LevelsIn Q r → LevelsIn Q k → LevelsIn Q (stop_or f r k)
stop_in Q None r k f a b = b
stop_in Q (Some p) r k f a b = (a.0, filled_in Q r.last p a.1 (f p refl))

absorbed_in : (Q : ℕ → Type 0) (d : ℕ) (es : List EndedLevel) (t : Tail) (os : List Holder) (r : Form)
    → EachIn (EndIn Q) es → FaultsIn Q t.last → LevelsIn Q r → LevelsIn Q (absorbed d es t os r)
absorbed_in Q d [] t [] r a b c = (c.0, merged_in Q r.last t.last c.1 b)
absorbed_in Q d [] t (o ∷ os) r a b c = stop_in Q (fault_of t.last o) r (with_tail r t r.last (t.opens ++ o ∷ os)) (b o) c c
absorbed_in Q d (e ∷ es) t (o ∷ os) r a b c = stop_in Q (end_fault_of e o) r (absorbed d es t os r) (a.0 o) c (absorbed_in Q d es t os r a.1 b c)
absorbed_in Q d (e ∷ es) t [] r a b c =
    elim (passes d r (closed r.last e)) as (λ b. LevelsIn Q (if b then absorbed d es t [] (with_level r (closed r.last e)) else halted r (filled_end (closed r.last e)))) [
      | true ↦ absorbed_in Q d es t [] (with_level r (closed r.last e)) a.1 b
          (EachIn-append (EndIn Q) r.ended (closed r.last e ∷ []) c.0 (closed_in Q r.last e c.1 a.0, tt), none_in Q)
      | false ↦ (c.0, end_in Q (closed r.last e) (closed_in Q r.last e c.1 a.0))
    ]

pub OffsetsIn-joined : (Q : ℕ → Type 0) (d : ℕ) (l r : Form) → OffsetsIn Q l → OffsetsIn Q r → OffsetsIn Q (joined d l r)
OffsetsIn-joined Q d l r a b = at (over d (uncut d l r)) where
  levels : LevelsIn Q (uncut d l r)
  levels = absorbed_in Q d r.ended (tail_of r) l.opens (base_of d l r.heights) b.ended b.last (a.ended, a.last)

  rising : EachIn Q (uncut d l r).heights
  rising = rw (heights-absorbed d r.ended (tail_of r) l.opens (base_of d l r.heights))
      (EachIn-take Q (d + 1) _ (EachIn-append Q l.heights _ a.heights (EachIn-drop Q _ r.heights b.heights)))

  at : (b : Bool) → OffsetsIn Q (if b then cut_short (uncut d l r) else uncut d l r)
  at true = record { ended = levels.0; last = levels.1; heights = rising }
  at false = record { ended = levels.0; last = levels.1; heights = rising }

-- a reading halts at an offset that is kept
along_in : (Q : ℕ → Type 0) (xs : List EndedLevel) (s : List Holder) (k : List Holder → Plain) (p : ℕ) → EachIn (EndIn Q) xs
    → ((t : List Holder) → k t ≡ halt p → Q p) → along xs s k ≡ halt p → Q p
along_in Q [] s k p a f h = f s h
along_in Q (x ∷ xs) s k p a f h = at (along_in Q xs (without_top s) k p a.1 f) (end_fault_of x (top s)) refl h where
  at : (along xs (without_top s) k ≡ halt p → Q p) → (o : Option ℕ) → end_fault_of x (top s) ≡ o → unless o (along xs (without_top s) k) ≡ halt p → Q p
  at rest None e h = rest h
  at rest (Some q) e h = let same : q ≡ p = cc in subst Q same (a.0 (top s) q e)

pub plain_in : (Q : ℕ → Type 0) (r : Form) (s : List Holder) (p : ℕ) → OffsetsIn Q r → plain r s ≡ halt p → Q p
plain_in Q r s p a = along_in Q r.ended s (within r.last r.opens (at_end r.exit)) p a.ended (λ t. at t (fault_of r.last (top t)) refl) where
  end_at_none : (x : Option Entry) (t : List Holder) → at_end x t ≡ halt p → Q p
  end_at_none None t h = cc
  end_at_none (Some x) t h = cc

  at : (t : List Holder) (o : Option ℕ) → fault_of r.last (top t) ≡ o → unless o (at_end r.exit (r.opens ++ t)) ≡ halt p → Q p
  at t None e h = end_at_none r.exit (r.opens ++ t) h
  at t (Some q) e h = let same : q ≡ p = cc in subst Q same (a.last (top t) q e)

pub apart : (l r : Form) (mid : ℕ) → OffsetsIn (λ p. p < mid) l → OffsetsIn (λ p. mid ≤ p) r → AreApart l r mid
apart l r mid a b = record {
  stops_left = λ s p. plain_in (λ p. p < mid) l s p a;
  heights_left = λ i q. EachIn-get (λ p. p < mid) l.heights i q a.heights;
  stops_right = λ s p. plain_in (λ p. mid ≤ p) r s p b;
  heights_right = λ i q. EachIn-get (λ p. mid ≤ p) r.heights i q b.heights;
}
