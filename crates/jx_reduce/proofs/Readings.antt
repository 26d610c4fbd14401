-- The reduced form of a list of marks answers what reading them answers.
use Rattle.std.proofs.Common.{◌≡◌, ℕ, ◌+◌, ◌-◌, ◌<◌, ◌≤◌, List, [], ◌∷◌, ◌++◌, length, take, drop, get_or, refl, sym, ◌∙◌, ap, subst, arith, Option, Some, None, false}
use Rattle.std.proofs.Math.Seq.{take-add}
use Rattle.std.proofs.lemmas.List.{take_more, take_rest, take-append-drop}
use Rattle.std.proofs.lemmas.List.Sums.{fold-append}
use Rattle.std.specs.Prelude.{slice_get, is_some}
use Rattle.jx_reduce.specs.Entries.{expect_at}
use Rattle.jx_reduce.specs.Table.{next_of, change_of, Change, same, added, removed}
use Rattle.jx_reduce.specs.Read.{Reading, went, stopped, too_deep, top, then_by, step, read}
use Rattle.jx_reduce.specs.Form.{Form, go, at_end, decide, acts}
use Rattle.jx_reduce.specs.Join.{all_faulted}
use Rattle.jx_reduce.specs.Marks.{fault_unless, faults_at, end_at, of_change, of_mark, of_nothing, pushed_from, pushed, of_marks}
use Rattle.jx_reduce.specs.Fits.{Fits}
use Rattle.jx_reduce.specs.Offsets.{FaultsIn, EndIn, EachIn, OffsetsIn, RisingFrom}
use Rattle.jx_reduce.proofs.Reached.{Reached, halts, reaches, reached, slice_get_none}
use Rattle.jx_reduce.proofs.Joined.{acts-joined, acts_over, then_by-halt}
use Rattle.jx_reduce.proofs.OneMark.{acts-of_mark}
use Rattle.jx_reduce.proofs.Along.{fault_of-no_faults}
use Rattle.jx_reduce.proofs.Bounds.{Fits-joined, OffsetsIn-joined, apart, none_in}
use Rattle.jx_reduce.specs.declared.table.holder.Holder.{Holder}
use Rattle.jx_reduce.specs.declared.table.holder.Holder.TheVariants.{Array, Object, Bottom}
use Rattle.jx_reduce.specs.declared.table.expect.Expect.{Expect}
use Rattle.jx_reduce.specs.declared.forms.entry.Entry.{Entry}
use Rattle.jx_lex.specs.declared.alphabet.mark.Mark.{Mark}

-- what follows a form is asked only at its exit, over at most d containers
pub then_by_same : (d : ℕ) (r : Form) (x : Entry) (s : List Holder) (f g : Expect → List Holder → Reading)
    → r.exit ≡ Some x → length r.opens ≤ length r.ended + length r.heights → length s ≤ d
    → ((t : List Holder) → length t ≤ d → f (expect_at x (top t)) t ≡ g (expect_at x (top t)) t)
    → then_by f (acts d r s) ≡ then_by g (acts d r s)
then_by_same d r x s f g going risen short h = at (reached r s) where
  deep : (t : List Holder) → length t + length r.ended ≡ length r.opens + length s → length r.ended ≤ length s
      → (o : Option ℕ) → slice_get r.heights (d - length s) ≡ o
      → then_by f (decide (go (expect_at x (top t)) t) o) ≡ then_by g (decide (go (expect_at x (top t)) t) o)
  deep t n m None e = h t (omega (arith, slice_get_none r.heights (d - length s) e))
  deep t n m (Some q) e = refl

  at : Reached r s → then_by f (acts d r s) ≡ then_by g (acts d r s)
  at (halts p e) = rw (e (at_end r.exit)) (then_by-halt f p _ ∙ sym (then_by-halt g p _))
  at (reaches t n m e) = rw (e (at_end r.exit)) (rw going (deep t n m (slice_get r.heights (d - length s)) refl))

step_then : (d : ℕ) (m : Mark) (o : Reading) → step d m o ≡ then_by (λ e s. step d m (went e s)) o
step_then d m (went e s) = refl
step_then d m (stopped at) = refl
step_then d m (too_deep at) = refl

-- the form of one mark is small, and keeps the mark's offset alone
risen_change : (c : Change) (x : Entry) (m : Mark) → length (of_change c x m).opens ≤ length (of_change c x m).ended + length (of_change c x m).heights
risen_change same x m = omega arith
risen_change (added h) x m = omega arith
risen_change removed x m = omega arith

goes_change : (d : ℕ) (c : Change) (x : Entry) (m : Mark) → (of_change c x m).exit ≡ None
    → all_faulted (of_change c x m).last ≡ false → d < length (of_change c x m).ended + length (of_change c x m).heights
goes_change d same x m e n = cc
goes_change d (added h) x m e n = cc
goes_change d removed x m e n = cc

fault_in : (Q : ℕ → Type 0) (o : Option Expect) (at p : ℕ) → Q at → fault_unless o at ≡ Some p → Q p
fault_in Q None at p a h = let e : at ≡ p = cc in subst Q e a
fault_in Q (Some f) at p a h = cc

faults_in : (Q : ℕ → Type 0) (x : Entry) (m : Mark) → Q m.at → FaultsIn Q (faults_at x m)
faults_in Q x m a Array p h = fault_in Q (next_of m.kind (expect_at x Array) Array) m.at p a h
faults_in Q x m a Object p h = fault_in Q (next_of m.kind (expect_at x Object) Object) m.at p a h
faults_in Q x m a Bottom p h = fault_in Q (next_of m.kind (expect_at x Bottom) Bottom) m.at p a h

end_at_in : (Q : ℕ → Type 0) (x : Entry) (m : Mark) → Q m.at → EndIn Q (end_at x m)
end_at_in Q x m a Array p h = fault_in Q (next_of m.kind (expect_at x Array) Array) m.at p a h
end_at_in Q x m a Object p h = fault_in Q (next_of m.kind (expect_at x Object) Object) m.at p a h
end_at_in Q x m a Bottom p h = let e : m.at ≡ p = cc in subst Q e a

change_in : (Q : ℕ → Type 0) (c : Change) (x : Entry) (m : Mark) → Q m.at → OffsetsIn Q (of_change c x m)
change_in Q same x m a = record { ended = tt; last = faults_in Q x m a; heights = tt }
change_in Q (added h) x m a = record { ended = tt; last = faults_in Q x m a; heights = (a, tt) }
change_in Q removed x m a = record { ended = (end_at_in Q x m a, tt); last = none_in Q; heights = tt }

-- one more mark is one more step
pushed_at : (d : ℕ) (r : Form) (m : Mark) (s : List Holder) (x : Option Entry) → r.exit ≡ x → Fits d r → OffsetsIn (λ p. p < m.at) r → length s ≤ d
    → acts d (pushed_from d r m x) s ≡ step d m (acts d r s)
pushed_at d r m s None e f o short = sym (step_then d m (acts d r s) ∙ acts_over d r s (λ e s. step d m (went e s)) e)
pushed_at d r m s (Some x) e f o short =
    acts-joined d r (of_mark x m) x m.at s e (apart r (of_mark x m) m.at o (change_in (λ p. m.at ≤ p) (change_of m.kind) x m (omega arith)))
    f.levels f.risen (risen_change (change_of m.kind) x m) short
    ∙ then_by_same d r x s (λ _ u. acts d (of_mark x m) u) (λ e s. step d m (went e s)) e f.risen short (λ t h. acts-of_mark d x m t h)
    ∙ sym (step_then d m (acts d r s))

pub acts-pushed : (d : ℕ) (r : Form) (m : Mark) (s : List Holder) → Fits d r → OffsetsIn (λ p. p < m.at) r → length s ≤ d
    → acts d (pushed d r m) s ≡ step d m (acts d r s)
acts-pushed d r m s = pushed_at d r m s r.exit refl

fits_pushed : (d : ℕ) (r : Form) (m : Mark) (x : Option Entry) → Fits d r → Fits d (pushed_from d r m x)
fits_pushed d r m None f = f
fits_pushed d r m (Some x) f = Fits-joined d r (of_mark x m) f (risen_change (change_of m.kind) x m) (goes_change d (change_of m.kind) x m)

pub Fits-pushed : (d : ℕ) (r : Form) (m : Mark) → Fits d r → Fits d (pushed d r m)
Fits-pushed d r m = fits_pushed d r m r.exit

in_pushed : (Q : ℕ → Type 0) (d : ℕ) (r : Form) (m : Mark) (x : Option Entry) → OffsetsIn Q r → Q m.at → OffsetsIn Q (pushed_from d r m x)
in_pushed Q d r m None a b = a
in_pushed Q d r m (Some x) a b = OffsetsIn-joined Q d r (of_mark x m) a (change_in Q (change_of m.kind) x m b)

pub OffsetsIn-pushed : (Q : ℕ → Type 0) (d : ℕ) (r : Form) (m : Mark) → OffsetsIn Q r → Q m.at → OffsetsIn Q (pushed d r m)
OffsetsIn-pushed Q d r m = in_pushed Q d r m r.exit

-- fewer offsets
pub each_more : {X : Type 0} (P Q : X → Type 0) → ((x : X) → P x → Q x) → (xs : List X) → EachIn P xs → EachIn Q xs
each_more P Q h [] a = tt
each_more P Q h (x ∷ xs) a = (h x a.0, each_more P Q h xs a.1)

pub OffsetsIn_more : (P Q : ℕ → Type 0) (r : Form) → ((p : ℕ) → P p → Q p) → OffsetsIn P r → OffsetsIn Q r
OffsetsIn_more P Q r h a = record {
  ended = each_more (EndIn P) (EndIn Q) (λ e f g p i. h p (f g p i)) r.ended a.ended;
  last = λ g p i. h p (a.last g p i);
  heights = each_more P Q h r.heights a.heights;
}

pub Fits-of_marks : (d : ℕ) (r : Form) (ms : List Mark) → Fits d r → Fits d (of_marks d r ms)
Fits-of_marks d r [] f = f
Fits-of_marks d r (m ∷ ms) f = Fits-of_marks d (pushed d r m) ms (Fits-pushed d r m f)

pub OffsetsIn-of_marks : (Q : ℕ → Type 0) (d : ℕ) (r : Form) (ms : List Mark) → OffsetsIn Q r → EachIn (λ m. Q m.at) ms → OffsetsIn Q (of_marks d r ms)
OffsetsIn-of_marks Q d r [] a b = a
OffsetsIn-of_marks Q d r (m ∷ ms) a b = OffsetsIn-of_marks Q d (pushed d r m) ms (OffsetsIn-pushed Q d r m a b.0) b.1

pub acts-of_marks : (d : ℕ) (r : Form) (ms : List Mark) (b : ℕ) (s : List Holder) → Fits d r → OffsetsIn (λ p. p < b) r → RisingFrom b ms → length s ≤ d
    → acts d (of_marks d r ms) s ≡ read d ms (acts d r s)
acts-of_marks d r [] b s f o h short = refl
acts-of_marks d r (m ∷ ms) b s f o h short =
    let below : OffsetsIn (λ p. p < m.at) r = OffsetsIn_more _ _ r (λ p e. omega (arith, e, h.0)) o in
    acts-of_marks d (pushed d r m) ms (m.at + 1) s (Fits-pushed d r m f)
    (OffsetsIn-pushed (λ p. p < m.at + 1) d r m (OffsetsIn_more _ _ r (λ p e. omega (arith, e)) below) (omega arith)) h.1 short
    ∙ ap (read d ms) (acts-pushed d r m s f below short)

-- the form of no marks
pub acts-of_nothing : (d : ℕ) (x : Entry) (s : List Holder) → acts d (of_nothing x) s ≡ went (expect_at x (top s)) s
acts-of_nothing d x s = rw (fault_of-no_faults (top s))

pub Fits-of_nothing : (d : ℕ) (x : Entry) → Fits d (of_nothing x)
Fits-of_nothing d x = record { levels = omega arith; opens = omega arith; heights = omega arith; risen = omega arith; decided = λ e n. cc }

pub OffsetsIn-of_nothing : (Q : ℕ → Type 0) (x : Entry) → OffsetsIn Q (of_nothing x)
OffsetsIn-of_nothing Q x = record { ended = tt; last = none_in Q; heights = tt }

-- reading two lists of marks
pub read-append : (d : ℕ) (ms ns : List Mark) (r : Reading) → read d (ms ++ ns) r ≡ read d ns (read d ms r)
read-append d ms ns r = fold-append (λ reading mark. step d mark reading) r ms ns

pub read_halted : (d : ℕ) (ms : List Mark) (at : ℕ) → read d ms (stopped at) ≡ stopped at
read_halted d [] at = refl
read_halted d (m ∷ ms) at = read_halted d ms at

pub read_deep : (d : ℕ) (ms : List Mark) (at : ℕ) → read d ms (too_deep at) ≡ too_deep at
read_deep d [] at = refl
read_deep d (m ∷ ms) at = read_deep d ms at

pub read_then : (d : ℕ) (ms : List Mark) (r : Reading) → read d ms r ≡ then_by (λ e s. read d ms (went e s)) r
read_then d ms (went e s) = refl
read_then d ms (stopped at) = read_halted d ms at
read_then d ms (too_deep at) = read_deep d ms at

-- the form of two lists of marks
pub of_marks-append : (d : ℕ) (r : Form) (ms ns : List Mark) → of_marks d r (ms ++ ns) ≡ of_marks d (of_marks d r ms) ns
of_marks-append d r [] ns = refl
of_marks-append d r (m ∷ ms) ns = of_marks-append d (pushed d r m) ms ns

-- nothing follows a form with no exit
of_marks_with : (d : ℕ) (r : Form) (ms : List Mark) (x : Option Entry) → r.exit ≡ x → x ≡ None → of_marks d r ms ≡ r
of_marks_with d r [] x e n = refl
of_marks_with d r (m ∷ ms) x e n = ap (λ o. of_marks d (pushed_from d r m o) ms) (e ∙ n) ∙ of_marks_with d r ms x e n

pub of_marks_over : (d : ℕ) (r : Form) (ms : List Mark) → r.exit ≡ None → of_marks d r ms ≡ r
of_marks_over d r ms e = of_marks_with d r ms r.exit refl e

pub none_of : {X : Type 0} (x : Option X) → is_some x ≡ false → x ≡ None
none_of None e = refl
none_of (Some y) e = cc

-- the forms of the marks so far, at a loop that reads some more or one more
pub of_more : (d : ℕ) (r : Form) (ms : List Mark) (i n : ℕ) (f g : Form) → f ≡ of_marks d r (take i ms)
    → g ≡ of_marks d f (take n (take (length ms - i) (drop i ms))) → g ≡ of_marks d r (take (i + n) ms)
of_more d r ms i n f g a b =
    b ∙ ap (λ xs. of_marks d f (take n xs)) (take_rest ms i) ∙ ap (λ f. of_marks d f (take n (drop i ms))) a
    ∙ sym (of_marks-append d r (take i ms) (take n (drop i ms))) ∙ ap (of_marks d r) (sym (take-add i n ms))

pub of_one_more : (d : ℕ) (r : Form) (ms : List Mark) (i : ℕ) (none : Mark) → i < length ms → (f g : Form) → f ≡ of_marks d r (take i ms)
    → g ≡ pushed d f (get_or ms i none) → g ≡ of_marks d r (take (i + 1) ms)
of_one_more d r ms i none within f g a b =
    b ∙ ap (λ f. pushed d f (get_or ms i none)) a
    ∙ sym (of_marks-append d r (take i ms) (get_or ms i none ∷ [])) ∙ ap (of_marks d r) (sym (take_more ms i none within))

-- and at one that stops where nothing goes on
pub of_no_more : (d : ℕ) (r : Form) (ms : List Mark) (i : ℕ) (f : Form) → f ≡ of_marks d r (take i ms) → f.exit ≡ None → f ≡ of_marks d r ms
of_no_more d r ms i f a e =
    sym (of_marks_over d f (drop i ms) e) ∙ ap (λ f. of_marks d f (drop i ms)) a
    ∙ sym (of_marks-append d r (take i ms) (drop i ms)) ∙ ap (of_marks d r) (take-append-drop i ms)
