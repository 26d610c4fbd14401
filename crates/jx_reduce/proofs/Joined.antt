-- The joined form answers what the right answers, from where the left went.
use Rattle.std.proofs.Common.{◌≡◌, ℕ, ◌+◌, ◌-◌, ◌<◌, ◌≤◌, List, [], ◌∷◌, ◌++◌, length, drop, refl, sym, ◌∙◌, ap, arith, Option, Some, None, nat_lt, if◌then◌else◌, Bool, true, false, length-append, length-take, length-drop}
use Rattle.std.proofs.lemmas.Bool.{ltb-true, lt-ltb, le-ltb}
use Rattle.std.specs.Prelude.{slice_get, is_some, IsTrue, ◌&&◌, ◌||◌}
use Rattle.jx_reduce.specs.Entries.{expect_at}
use Rattle.jx_reduce.specs.Read.{Reading, stopped, too_deep, top, then_by}
use Rattle.jx_reduce.specs.Form.{Form, Plain, halt, go, beyond, fault_of, end_fault_of, unless, at_end, leading, plain, decide, acts}
use Rattle.jx_reduce.specs.Join.{closed, filled_end, Tail, tail_of, halted, stop_or, with_tail, with_level, passes, absorbed, joined_heights, all_faulted, cut_short, cut, joined}
use Rattle.jx_reduce.proofs.Along.{along_same}
use Rattle.jx_reduce.proofs.Absorbed.{plain-absorbed, room_below}
use Rattle.jx_reduce.proofs.Reached.{Reached, halts, reaches, reached, slice_get-take, slice_get-append_some, slice_get-append_none, slice_get-drop, slice_get_none}
use Rattle.jx_reduce.specs.declared.table.holder.Holder.{Holder}
use Rattle.jx_reduce.specs.declared.table.holder.Holder.TheVariants.{Array, Object, Bottom}
use Rattle.jx_reduce.specs.declared.forms.level.Level.{Level}
use Rattle.jx_reduce.specs.declared.forms.entry.Entry.{Entry}
use Rattle.jx_reduce.specs.declared.table.expect.Expect.{Expect}
use Rattle.jx_reduce.specs.declared.forms.ended_level.EndedLevel.{EndedLevel}

-- how many containers are open after an absorption, above the levels that ended
abbrev pub Counted : ℕ → ℕ → Form → Type 0
Counted more base a = 0 < length a.opens → length a.opens + base ≡ more + length a.ended

counted_stop : (f : Option ℕ) (r k : Form) (more base : ℕ) → Counted more base k → Counted more base (stop_or f r k)
counted_stop None r k more base h = h
counted_stop (Some p) r k more base h = λ e. absurd (omega (arith, e))

pub counted : (d : ℕ) (es : List EndedLevel) (t : Tail) (os : List Holder) (r : Form)
    → Counted (length os + length t.opens) (length r.ended + length es) (absorbed d es t os r)
counted d [] t [] r = λ _. omega arith
counted d [] t (o ∷ os) r = counted_stop (fault_of t.last o) r (with_tail r t r.last (t.opens ++ o ∷ os)) _ _ (λ _. omega (arith, length-append t.opens (o ∷ os)))
counted d (e ∷ es) t (o ∷ os) r = counted_stop (end_fault_of e o) r (absorbed d es t os r) _ _ (λ h. omega (arith, counted d es t os r h))
counted d (e ∷ es) t [] r =
    elim (passes d r (closed r.last e)) as (λ b. Counted (length {A = Holder} [] + length t.opens) (length r.ended + length (e ∷ es)) (if b then absorbed d es t [] (with_level r (closed r.last e)) else halted r (filled_end (closed r.last e)))) [
      | true ↦ λ h. omega (arith, counted d es t [] (with_level r (closed r.last e)) h, length-append r.ended (closed r.last e ∷ []))
      | false ↦ λ h. absurd (omega (arith, h))
    ]

-- an absorption leaves the heights, and ends no level past d
heights_stop : (f : Option ℕ) (r k : Form) → k.heights ≡ r.heights → (stop_or f r k).heights ≡ r.heights
heights_stop None r k h = h
heights_stop (Some p) r k h = refl

pub heights-absorbed : (d : ℕ) (es : List EndedLevel) (t : Tail) (os : List Holder) (r : Form) → (absorbed d es t os r).heights ≡ r.heights
heights-absorbed d [] t [] r = refl
heights-absorbed d [] t (o ∷ os) r = heights_stop (fault_of t.last o) r (with_tail r t r.last (t.opens ++ o ∷ os)) refl
heights-absorbed d (e ∷ es) t (o ∷ os) r = heights_stop (end_fault_of e o) r (absorbed d es t os r) (heights-absorbed d es t os r)
heights-absorbed d (e ∷ es) t [] r =
    elim (passes d r (closed r.last e)) as (λ b. (if b then absorbed d es t [] (with_level r (closed r.last e)) else halted r (filled_end (closed r.last e))).heights ≡ r.heights) [
      | true ↦ heights-absorbed d es t [] (with_level r (closed r.last e))
      | false ↦ refl
    ]

few_stop : (d : ℕ) (f : Option ℕ) (r k : Form) → length r.ended ≤ d → length k.ended ≤ d → length (stop_or f r k).ended ≤ d
few_stop d None r k h l = l
few_stop d (Some p) r k h l = h

pub few-absorbed : (d : ℕ) (es : List EndedLevel) (t : Tail) (os : List Holder) (r : Form) → length r.ended ≤ d → length (absorbed d es t os r).ended ≤ d
few-absorbed d [] t [] r h = h
few-absorbed d [] t (o ∷ os) r h = few_stop d (fault_of t.last o) r (with_tail r t r.last (t.opens ++ o ∷ os)) h h
few-absorbed d (e ∷ es) t (o ∷ os) r h = few_stop d (end_fault_of e o) r (absorbed d es t os r) h (few-absorbed d es t os r h)
few-absorbed d (e ∷ es) t [] r h =
    let room : (b : Bool) → passes d r (closed r.last e) ≡ b → length (if b then absorbed d es t [] (with_level r (closed r.last e)) else halted r (filled_end (closed r.last e))).ended ≤ d
    = λ b. elim b as (λ b. passes d r (closed r.last e) ≡ b → length (if b then absorbed d es t [] (with_level r (closed r.last e)) else halted r (filled_end (closed r.last e))).ended ≤ d) [
      | true ↦ λ g. few-absorbed d es t [] (with_level r (closed r.last e)) (omega (arith, length-append r.ended (closed r.last e ∷ []), room_below d r (closed r.last e) g))
      | false ↦ λ g. h
    ]
    in room (passes d r (closed r.last e)) refl

-- what is told of a place of the joined heights
module _ (d : ℕ) (l : Form) (hs : List ℕ) where
  pub heights_left : (i q : ℕ) → i ≤ d → slice_get l.heights i ≡ Some q → slice_get (joined_heights d l hs) i ≡ Some q
  heights_left i q h e =
      slice_get-take (d + 1) (l.heights ++ drop ((length l.heights + length l.ended) - length l.opens) hs) i (omega (arith, h))
      ∙ slice_get-append_some l.heights (drop ((length l.heights + length l.ended) - length l.opens) hs) i q e

  pub heights_right : (i : ℕ) → i ≤ d → slice_get l.heights i ≡ None
      → slice_get (joined_heights d l hs) i ≡ slice_get hs (((length l.heights + length l.ended) - length l.opens) + (i - length l.heights))
  heights_right i h e =
      slice_get-take (d + 1) (l.heights ++ drop ((length l.heights + length l.ended) - length l.opens) hs) i (omega (arith, h))
      ∙ slice_get-append_none l.heights (drop ((length l.heights + length l.ended) - length l.opens) hs) i e
      ∙ slice_get-drop ((length l.heights + length l.ended) - length l.opens) hs (i - length l.heights)

-- deciding
decide_after : (p : ℕ) (o : Option ℕ) → ((q : ℕ) → o ≡ Some q → p ≤ q) → decide (halt p) o ≡ stopped p
decide_after p None h = refl
decide_after p (Some q) h = ap (λ b. if b then too_deep q else stopped p) (le-ltb q p (h q refl))

decide_before : (a : Plain) (q : ℕ) → ((p : ℕ) → a ≡ halt p → q < p) → decide a (Some q) ≡ too_deep q
decide_before (halt p) q h = ap (λ b. if b then too_deep q else stopped p) (lt-ltb q p (h p refl))
decide_before (go e s) q h = refl
decide_before beyond q h = refl

pub then_by-halt : (f : Expect → List Holder → Reading) (p : ℕ) (o : Option ℕ) → then_by f (decide (halt p) o) ≡ decide (halt p) o
then_by-halt f p None = refl
then_by-halt f p (Some q) = elim (nat_lt q p) as (λ b. then_by f (if b then too_deep q else stopped p) ≡ (if b then too_deep q else stopped p)) [ true ↦ refl | false ↦ refl ]

then_by-beyond : (f : Expect → List Holder → Reading) (o : Option ℕ) → then_by f (decide beyond o) ≡ decide beyond o
then_by-beyond f None = refl
then_by-beyond f (Some q) = refl

pub decide_end : (x : Option Entry) (s : List Holder) (q : ℕ) → decide (at_end x s) (Some q) ≡ too_deep q
decide_end None s q = refl
decide_end (Some x) s q = refl

-- past the depth the heights decide, so the containers above are not needed
acts-shortened : (d : ℕ) (a : Form) (s : List Holder) → length s ≤ d → d < length a.ended + length a.heights
    → (o : Option ℕ) → slice_get a.heights (d - length s) ≡ o → Reached a s
    → decide (leading a (λ _. beyond) s) o ≡ decide (plain a s) o
acts-shortened d a s short high o e (halts p h) = rw (h (λ _. beyond), h (at_end a.exit))
acts-shortened d a s short high None e (reaches t n m h) = absurd (omega (arith, slice_get_none a.heights (d - length s) e))
acts-shortened d a s short high (Some q) e (reaches t n m h) = rw (h (λ _. beyond), h (at_end a.exit)) (sym (decide_end a.exit t q))

-- where all holders have faulted, what follows does not matter
pub halts_all : (x y z : Option ℕ) → ((is_some x && is_some y) && is_some z) ≡ true → (IsTrue (is_some x) × IsTrue (is_some y)) × IsTrue (is_some z)
halts_all (Some x) (Some y) (Some z) e = ((refl, refl), refl)
halts_all (Some x) (Some y) None e = cc
halts_all (Some x) None (Some z) e = cc
halts_all (Some x) None None e = cc
halts_all None (Some y) (Some z) e = cc
halts_all None (Some y) None e = cc
halts_all None None (Some z) e = cc
halts_all None None None e = cc

same_halt : (o : Option ℕ) (a b : Plain) → IsTrue (is_some o) → unless o a ≡ unless o b
same_halt None a b t = cc
same_halt (Some p) a b t = refl

pub faulted_same : (f : Level) (h : Holder) (a b : Plain) → all_faulted f ≡ true → unless (fault_of f h) a ≡ unless (fault_of f h) b
faulted_same f Array a b e = same_halt f.array a b (halts_all f.array f.object f.bottom e).0.0
faulted_same f Object a b e = same_halt f.object a b (halts_all f.array f.object f.bottom e).0.1
faulted_same f Bottom a b e = same_halt f.bottom a b (halts_all f.array f.object f.bottom e).1

cut_at : (d : ℕ) (a : Form) (s : List Holder) → length s ≤ d → (d < length a.opens → d < length a.ended + length a.heights)
    → (b c : Bool) → nat_lt d (length a.opens) ≡ b → all_faulted a.last ≡ c → acts d (if b || c then cut_short a else a) s ≡ acts d a s
cut_at d a s short high true c e f = acts-shortened d a s short (high (ltb-true _ _ e)) (slice_get a.heights (d - length s)) refl (reached a s)
cut_at d a s short high false true e f =
    ap (λ v. decide v (slice_get a.heights (d - length s)))
    (along_same a.ended s _ _ (λ u g. faulted_same a.last (top u) beyond (at_end a.exit (a.opens ++ u)) f))
cut_at d a s short high false false e f = refl

pub acts-cut : (d : ℕ) (a : Form) (s : List Holder) → length s ≤ d → (d < length a.opens → d < length a.ended + length a.heights) → acts d (cut d a) s ≡ acts d a s
acts-cut d a s short high = cut_at d a s short high (nat_lt d (length a.opens)) (all_faulted a.last) refl refl

-- no list goes on from a form with no exit
pub acts_over : (d : ℕ) (l : Form) (s : List Holder) (f : Expect → List Holder → Reading) → l.exit ≡ None → then_by f (acts d l s) ≡ acts d l s
acts_over d l s f e = at (reached l s) where
  at : Reached l s → then_by f (acts d l s) ≡ acts d l s
  at (halts p h) = rw (h (at_end l.exit)) (then_by-halt f p (slice_get l.heights (d - length s)))
  at (reaches t n m h) = rw (h (at_end l.exit)) (rw e (then_by-beyond f (slice_get l.heights (d - length s))))

-- the left's offsets are below `mid`, and the right's are not
pub record AreApart (l r : Form) (mid : ℕ) : Type 0 where
  pub stops_left : (s : List Holder) (p : ℕ) → plain l s ≡ halt p → p < mid
  pub heights_left : (i q : ℕ) → slice_get l.heights i ≡ Some q → q < mid
  pub stops_right : (s : List Holder) (p : ℕ) → plain r s ≡ halt p → mid ≤ p
  pub heights_right : (i q : ℕ) → slice_get r.heights i ≡ Some q → mid ≤ q

abbrev pub base_of : ℕ → Form → List ℕ → Form
base_of d l hs = record { ended = l.ended; last = l.last; opens = []; exit = None; heights = joined_heights d l hs }

abbrev pub uncut : ℕ → Form → Form → Form
uncut d l r = absorbed d r.ended (tail_of r) l.opens (base_of d l r.heights)

pub high : (d : ℕ) (l r : Form) → length l.opens ≤ length l.ended + length l.heights → length r.opens ≤ length r.ended + length r.heights
    → d < length (uncut d l r).opens → d < length (uncut d l r).ended + length (uncut d l r).heights
high d l r a b h =
    rw (heights-absorbed d r.ended (tail_of r) l.opens (base_of d l r.heights))
    (simp (length-take, length-append, length-drop) (omega (arith, counted d r.ended (tail_of r) l.opens (base_of d l r.heights) (omega (arith, h)))))

goes_deep : (d : ℕ) (l r : Form) (x : Entry) (mid : ℕ) (s t : List Holder) → AreApart l r mid
    → length l.opens ≤ length l.ended + length l.heights
    → length s ≤ d → length t + length l.ended ≡ length l.opens + length s
    → length l.ended ≤ length s
    → (o : Option ℕ) → slice_get l.heights (d - length s) ≡ o
    → decide (plain r t) (slice_get (joined_heights d l r.heights) (d - length s)) ≡ then_by (λ _ u. acts d r u) (decide (go (expect_at x (top t)) t) o)
goes_deep d l r x mid s t apart risen short n m None e =
    rw (heights_right d l r.heights (d - length s) (omega arith) e)
    (let k : ((length l.heights + length l.ended) - length l.opens) + ((d - length s) - length l.heights) ≡ d - length t = omega (arith, slice_get_none l.heights (d - length s) e)
    in rw k)
goes_deep d l r x mid s t apart risen short n m (Some q) e =
    rw (heights_left d l r.heights (d - length s) q (omega arith) e)
    (decide_before (plain r t) q (λ p h. omega (arith, apart.stops_right t p h, apart.heights_left (d - length s) q e)))

halts_joined : (d : ℕ) (l r : Form) (mid : ℕ) (s : List Holder) (p : ℕ) → AreApart l r mid → length s ≤ d → p < mid
    → (o : Option ℕ) → slice_get l.heights (d - length s) ≡ o
    → decide (halt p) (slice_get (joined_heights d l r.heights) (d - length s)) ≡ decide (halt p) o
halts_joined d l r mid s p apart short below None e =
    rw (heights_right d l r.heights (d - length s) (omega arith) e)
    (decide_after p _ (λ q h. omega (arith, apart.heights_right _ q h)))
halts_joined d l r mid s p apart short below (Some q) e = rw (heights_left d l r.heights (d - length s) q (omega arith) e)

pub acts-joined : (d : ℕ) (l r : Form) (x : Entry) (mid : ℕ) (s : List Holder) → l.exit ≡ Some x → AreApart l r mid
    → length l.ended ≤ d → length l.opens ≤ length l.ended + length l.heights → length r.opens ≤ length r.ended + length r.heights
    → length s ≤ d
    → acts d (joined d l r) s ≡ then_by (λ _ u. acts d r u) (acts d l s)
acts-joined d l r x mid s going apart few risen risen' short =
    acts-cut d (uncut d l r) s short (high d l r risen risen')
    ∙ rw (heights-absorbed d r.ended (tail_of r) l.opens (base_of d l r.heights), plain-absorbed d r.ended (tail_of r) l.opens (base_of d l r.heights) s few short) (at (reached l s)) where
      at : Reached l s → decide (leading l (plain r) s) (slice_get (joined_heights d l r.heights) (d - length s)) ≡ then_by (λ _ u. acts d r u) (acts d l s)
      at (halts p h) =
          rw (h (plain r), h (at_end l.exit))
          (halts_joined d l r mid s p apart short (apart.stops_left s p (h (at_end l.exit))) (slice_get l.heights (d - length s)) refl
          ∙ sym (then_by-halt (λ _ u. acts d r u) p (slice_get l.heights (d - length s))))
      at (reaches t n m h) =
          rw (h (plain r), h (at_end l.exit)) (rw going (goes_deep d l r x mid s t apart risen short n m (slice_get l.heights (d - length s)) refl))
