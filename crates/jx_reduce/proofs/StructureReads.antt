-- Structures that read marks.
use Rattle.std.proofs.Common.{◌≡◌, ℕ, ◌+◌, ◌<◌, ◌≤◌, List, [], ◌∷◌, ◌++◌, length, refl, sym, ◌∙◌, ap, subst, arith, append_assoc, Option, Some, None, inl, inr}
use Rattle.std.specs.Prelude.{◌⊎◌}
use Rattle.jx_reduce.specs.Entries.{expect_at, leads_to}
use Rattle.jx_reduce.specs.Form.{Form, acts}
use Rattle.jx_reduce.specs.Marks.{of_marks, of_nothing}
use Rattle.jx_reduce.specs.Offsets.{EachIn, RisingFrom}
use Rattle.jx_reduce.specs.Read.{Reading, went, stopped, too_deep, top, without_top, moved, then_by, step, read}
use Rattle.jx_reduce.specs.Reduced.{form_in}
use Rattle.jx_reduce.specs.Reductions.{entry_of}
use Rattle.jx_reduce.specs.Structure.{StructureValue, behind, answer, IsOf, TailIn, AreIn}
use Rattle.jx_reduce.specs.Table.{next_of, change_of, Change, same, added, removed}
use Rattle.jx_reduce.specs.inside.Structures.{string_at, string_head, rest_head, rest_tail, end_of, IsBegun, BeginsWithNoString, IsSound, KnowsDepth, MayFollow}
use Rattle.jx_reduce.specs.declared.forms.entry.Entry.{Entry}
use Rattle.jx_reduce.specs.declared.forms.entry.Entry.TheVariants.{Value as AnyValue}
use Rattle.jx_reduce.specs.declared.table.expect.Expect.{Expect}
use Rattle.jx_reduce.specs.declared.table.expect.Expect.TheVariants as expect
use Rattle.jx_reduce.specs.declared.table.holder.Holder.{Holder}
use Rattle.jx_reduce.specs.declared.forms.structure.Rest.{Rest}
use Rattle.jx_lex.specs.declared.alphabet.mark.Mark.{Mark}
use Rattle.jx_lex.specs.declared.alphabet.mark.MarkKind.{MarkKind}
use Rattle.jx_lex.specs.declared.alphabet.mark.MarkKind.TheVariants.{OpenArray, CloseArray, OpenObject, CloseObject, Comma, String, Number, True, False, Null, Colon}
use Rattle.std.specs.Prelude.{nat_lt, Bool, true, false, if◌then◌else◌}
use Rattle.jx_reduce.proofs.Bounds.{EachIn-append}
use Rattle.jx_reduce.proofs.Cuts.{RisingFrom-less, rising-split}
use Rattle.jx_reduce.proofs.Exits.{GoesOn-of_marks, GoesOn-of_nothing}
use Rattle.jx_reduce.proofs.OneMark.{leads}
use Rattle.jx_reduce.proofs.Readings.{acts-of_marks, acts-of_nothing, Fits-of_marks, Fits-of_nothing, OffsetsIn-of_marks, OffsetsIn-of_nothing, read_halted, read_deep, read-append}
use Rattle.jx_reduce.proofs.Runs.{IsReadWithin, read_within, then_by_within}
use Rattle.jx_reduce.proofs.Sound.{plain_entry}
use Rattle.jx_reduce.proofs.Structures.{on, tail_is, then_by_went, rising_put, end_put, end_below}

-- marks that rise lie from the first on
each_rising : (b c : ℕ) (ms : List Mark) → b ≤ c → RisingFrom c ms → EachIn (λ m. b ≤ m.at) ms
each_rising b c [] h r = tt
each_rising b c (m ∷ ms) h r = (omega (arith, h, r.0), each_rising b (m.at + 1) ms (omega (arith, h, r.0)) r.1)

-- where a reading stands behind a mark

-- only a string leads different entries to different ones
same_lead : (k : MarkKind) (x y : Entry) → (k ≡ String → ⊥) → leads_to k x ≡ leads_to k y
same_lead OpenArray x y h = refl
same_lead CloseArray x y h = refl
same_lead OpenObject x y h = refl
same_lead CloseObject x y h = refl
same_lead Colon x y h = refl
same_lead Comma x y h = refl
same_lead String x y h = absurd (h refl)
same_lead Number x y h = refl
same_lead True x y h = refl
same_lead False x y h = refl
same_lead Null x y h = refl

is_string : (k : MarkKind) → (k ≡ String) ⊎ (k ≡ String → ⊥)
is_string OpenArray = inr (λ e. cc)
is_string CloseArray = inr (λ e. cc)
is_string OpenObject = inr (λ e. cc)
is_string CloseObject = inr (λ e. cc)
is_string Colon = inr (λ e. cc)
is_string Comma = inr (λ e. cc)
is_string String = inl refl
is_string Number = inr (λ e. cc)
is_string True = inr (λ e. cc)
is_string False = inr (λ e. cc)
is_string Null = inr (λ e. cc)

abbrev Lands : Entry → Reading → Type 0
Lands x (went e s) = e ≡ expect_at x (top s)
Lands x (stopped at) = Unit {0}
Lands x (too_deep at) = Unit {0}

opened : (d at : ℕ) (x : Entry) (h : Holder) (e : Expect) (s : List Holder) (b : Bool) → e ≡ expect_at x h → Lands x (if b then went e (h ∷ s) else too_deep at)
opened d at x h e s true k = k
opened d at x h e s false k = tt

-- the innermost container behind a mark
abbrev top_behind : Change → Holder → Holder → Holder
top_behind c h g = elim c [ same ↦ h | added a ↦ a | removed ↦ g ]

led : (m : Mark) (e : Expect) (s : List Holder) (f : Expect) (g : Holder) (c : Change) → change_of m.kind ≡ c → next_of m.kind e (top s) ≡ Some f → f ≡ expect_at (leads_to m.kind (entry_of e)) (top_behind c (top s) g)
led m e s f g c ec eo =
    subst (λ c. f ≡ expect_at (leads_to m.kind (entry_of e)) (top_behind c (top s) g)) ec
    (leads m.kind (entry_of e) f (top s) g (ap (λ e. next_of m.kind e (top s)) (plain_entry e (top s)) ∙ eo))

moved_lands : (d : ℕ) (m : Mark) (e : Expect) (s : List Holder) (c : Change) (o : Option Expect) → change_of m.kind ≡ c → next_of m.kind e (top s) ≡ o → (m.kind ≡ String → ⊥)
    → Lands (leads_to m.kind AnyValue) (moved d m.at c o s)
moved_lands d m e s c None ec eo other = tt
moved_lands d m e s same (Some f) ec eo other =
    led m e s f (top s) same ec eo
    ∙ ap (λ x. expect_at x (top s)) (same_lead m.kind (entry_of e) AnyValue other)
moved_lands d m e s (added h) (Some f) ec eo other =
    opened d m.at (leads_to m.kind AnyValue) h f s (nat_lt (length s) d)
    (led m e s f (top s) (added h) ec eo
    ∙ ap (λ x. expect_at x h) (same_lead m.kind (entry_of e) AnyValue other))
moved_lands d m e s removed (Some f) ec eo other =
    led m e s f (top (without_top s)) removed ec eo
    ∙ ap (λ x. expect_at x (top (without_top s))) (same_lead m.kind (entry_of e) AnyValue other)

step_lands : (d : ℕ) (m : Mark) (r : Reading) → (m.kind ≡ String → ⊥) → Lands (leads_to m.kind AnyValue) (step d m r)
step_lands d m (went e s) other = moved_lands d m e s (change_of m.kind) (next_of m.kind e (top s)) refl refl other
step_lands d m (stopped at) other = tt
step_lands d m (too_deep at) other = tt

two_land : (d p q : ℕ) (x : Entry) (e : Expect) (s : List Holder) → Lands x (read d (string_at p ∷ string_at q ∷ []) (went e s))
two_land d p q x expect.Value s = tt
two_land d p q x expect.ArrayFirst s = tt
two_land d p q x expect.ObjectFirst s = tt
two_land d p q x expect.Name s = tt
two_land d p q x expect.Colon s = tt
two_land d p q x expect.After s = tt

string_lands : (d p : ℕ) (m : Mark) (x : Entry) (e : Expect) (s : List Holder) → m.kind ≡ String → Lands x (read d (string_at p ∷ m ∷ []) (went e s))
string_lands d p m x e s k = subst (λ k. Lands x (read d (string_at p ∷ record { kind = k; at = m.at } ∷ []) (went e s))) (sym k) (two_land d p m.at x e s)

-- behind a head every expectation that goes on stands at one entry
head_lands : (d : ℕ) (string : Option ℕ) (m : Mark) (e : Expect) (s : List Holder) → (string ≡ None → m.kind ≡ String → ⊥) → Lands (leads_to m.kind AnyValue) (read d (string_head string ++ m ∷ []) (went e s))
head_lands d None m e s first = step_lands d m (went e s) (first refl)
head_lands d (Some p) m e s first = at (is_string m.kind) where
  at : (m.kind ≡ String) ⊎ (m.kind ≡ String → ⊥) → Lands (leads_to m.kind AnyValue) (read d (string_at p ∷ m ∷ []) (went e s))
  at (inl k) = string_lands d p m (leads_to m.kind AnyValue) e s k
  at (inr k) = step_lands d m (step d (string_at p) (went e s)) k

landed : (d : ℕ) (ms : List Mark) (t : Form) (x : Entry) (r : Reading) → Lands x r → IsReadWithin d r → ((s : List Holder) → length s ≤ d → acts d t s ≡ read d ms (went (expect_at x (top s)) s))
    → then_by (behind d (Some t)) r ≡ read d ms r
landed d ms t x (went e s) l w h = h s w ∙ ap (λ e. read d ms (went e s)) (sym l)
landed d ms t x (stopped at) l w h = sym (read_halted d ms at)
landed d ms t x (too_deep at) l w h = sym (read_deep d ms at)

-- ---- a structure that begins

abbrev pub begun : ℕ → Option ℕ → Option Rest → StructureValue
begun d string rest = record { depth = d; head = string_head string ++ rest_head rest; tail = rest_tail rest }

pub bare : (string : Option ℕ) → string_head string ++ [] ≡ string_head string
bare None = refl
bare (Some at) = refl

pub few_begun : (string : Option ℕ) (rest : Option Rest) → length (string_head string ++ rest_head rest) ≤ 2
few_begun None None = omega arith
few_begun None (Some r) = omega arith
few_begun (Some at) None = omega arith
few_begun (Some at) (Some r) = omega arith

-- the value that these marks make
made : (d : ℕ) (string : Option ℕ) (m : Mark) (more : List Mark) (r : Rest) → IsBegun d (m ∷ more) (Some r)
    → begun d string (Some r) ≡ record { depth = d; head = string_head string ++ m ∷ []; tail = Some (of_marks d (of_nothing (leads_to m.kind AnyValue)) more) }
made d string m more r is = λ i. record { depth = d; head = string_head string ++ is.0 i ∷ []; tail = Some (is.2 i) }

first_no : (string : Option ℕ) (m : Mark) (ms : List Mark) → (string ≡ None → BeginsWithNoString (m ∷ ms)) → string ≡ None → m.kind ≡ String → ⊥
first_no string m ms h e = h e

pub begun_reads : (d : ℕ) (string : Option ℕ) (ms : List Mark) (rest : Option Rest) → IsBegun d ms rest → (string ≡ None → BeginsWithNoString ms) → RisingFrom 0 (string_head string ++ ms)
    → IsOf (string_head string ++ ms) (begun d string rest)
begun_reads d string [] rest is first rising e s short =
    subst (λ r. answer (begun d string r) e s ≡ read d (string_head string ++ []) (went e s)) (sym is) (then_by_went (read d (string_head string ++ []) (went e s)))
begun_reads d string (m ∷ ms) None is first rising e s short = absurd is
begun_reads d string (m ∷ ms) (Some r) is first rising e s short =
    ap (λ f. answer f e s) (made d string m ms r is)
    ∙ landed d ms (of_marks d (of_nothing x) ms) x (read d (string_head string ++ m ∷ []) (went e s)) (head_lands d string m e s (first_no string m ms first))
    (read_within d (string_head string ++ m ∷ []) (went e s) short) there
    ∙ sym (read-append d (string_head string ++ m ∷ []) ms (went e s))
    ∙ ap (λ ns. read d ns (went e s)) (append_assoc (string_head string) (m ∷ []) ms)
  where
    x : Entry
    x = leads_to m.kind AnyValue

    up : RisingFrom 0 ms
    up = RisingFrom-less (m.at + 1) 0 ms (omega arith) (rising-split 0 (string_head string) (m ∷ ms) rising).1.1

    there : (s : List Holder) → length s ≤ d → acts d (of_marks d (of_nothing x) ms) s ≡ read d ms (went (expect_at x (top s)) s)
    there s short =
        acts-of_marks d (of_nothing x) ms 0 s (Fits-of_nothing d x) (OffsetsIn-of_nothing (λ p. p < 0) x) up short
        ∙ ap (read d ms) (acts-of_nothing d x s)

rising_front : (b : ℕ) (ms ns : List Mark) (m : Mark) → RisingFrom b (ms ++ m ∷ ns) → RisingFrom b (ms ++ m ∷ [])
rising_front b [] ns m r = (r.0, tt)
rising_front b (n ∷ ms) ns m r = (r.0, rising_front (n.at + 1) ms ns m r.1)

pub begun_sound : (d : ℕ) (string : Option ℕ) (ms : List Mark) (rest : Option Rest) → IsBegun d ms rest → RisingFrom 0 (string_head string ++ ms) → IsSound (begun d string rest)
begun_sound d string [] rest is rising =
    subst (λ r. IsSound (begun d string r)) (sym is) (record { few = few_begun string None; rising = rising; tail = tt })
begun_sound d string (m ∷ ms) None is rising = absurd is
begun_sound d string (m ∷ ms) (Some r) is rising =
    subst IsSound (sym (made d string m ms r is))
    (record {
      few = subst (λ m. length (string_head string ++ m ∷ []) ≤ 2) is.0 (few_begun string (Some r));
      rising = rising_front 0 (string_head string) ms m rising;
      tail = record {
        fits = Fits-of_marks d (of_nothing x) ms (Fits-of_nothing d x);
        goes_on = GoesOn-of_marks d (of_nothing x) ms (GoesOn-of_nothing x);
        offsets = OffsetsIn-of_marks (λ p. end_of 0 (string_head string ++ m ∷ []) ≤ p) d (of_nothing x) ms (OffsetsIn-of_nothing (λ p. end_of 0 (string_head string ++ m ∷ []) ≤ p) x)
            (subst (λ b. EachIn (λ n. b ≤ n.at) ms) (sym (end_put 0 (string_head string) (m ∷ [])))
            (each_rising (m.at + 1) (m.at + 1) ms (omega arith) (rising-split 0 (string_head string) (m ∷ ms) rising).1.1));
      };
    })
  where
    x : Entry
    x = leads_to m.kind AnyValue

pub begun_in : (Q : ℕ → Type 0) (d : ℕ) (string : Option ℕ) (ms : List Mark) (rest : Option Rest) → IsBegun d ms rest → EachIn (λ m. Q m.at) (string_head string ++ ms) → AreIn Q (begun d string rest)
begun_in Q d string [] rest is a = subst (λ r. AreIn Q (begun d string r)) (sym is) (record { head = a; tail = tt })
begun_in Q d string (m ∷ ms) None is a = absurd is
begun_in Q d string (m ∷ ms) (Some r) is a =
    subst (AreIn Q) (sym (made d string m ms r is))
    (record {
      head = front (string_head string) a;
      tail = OffsetsIn-of_marks Q d (of_nothing (leads_to m.kind AnyValue)) ms (OffsetsIn-of_nothing Q (leads_to m.kind AnyValue)) (back (string_head string) a);
    })
  where
    front : (hs : List Mark) → EachIn (λ m. Q m.at) (hs ++ m ∷ ms) → EachIn (λ m. Q m.at) (hs ++ m ∷ [])
    front [] a = (a.0, tt)
    front (h ∷ hs) a = (a.0, front hs a.1)

    back : (hs : List Mark) → EachIn (λ m. Q m.at) (hs ++ m ∷ ms) → EachIn (λ m. Q m.at) ms
    back [] a = a.1
    back (h ∷ hs) a = back hs a.1

pub begun_knows : (d : ℕ) (ms : List Mark) (rest : Option Rest) → IsBegun d ms rest → KnowsDepth d rest
begun_knows d [] rest is = subst (KnowsDepth d) (sym is) tt
begun_knows d (m ∷ ms) None is = absurd is
begun_knows d (m ∷ ms) (Some r) is = is.1

-- more marks, where none stand behind the string so far
pub more_rising : (d : ℕ) (known : Option ℕ) (marks : List Mark) → MayFollow (begun d known None) marks → IsSound (begun d known None) → RisingFrom 0 (string_head known ++ marks)
more_rising d known marks may sound =
    rising_put may.between 0 (string_head known) marks (subst (RisingFrom 0) (bare known) sound.rising) (subst (EachIn (λ m. m.at < may.between)) (bare known) may.left.head) (omega arith)
    (each_rising may.between may.between marks (omega arith) may.right) (RisingFrom-less may.between 0 marks (omega arith) may.right)

pub more_reads : (d : ℕ) (known string : Option ℕ) (marks ms : List Mark) (rest : Option Rest) → IsBegun d ms rest → (string ≡ None → BeginsWithNoString ms)
    → string_head string ++ ms ≡ string_head known ++ marks → MayFollow (begun d known None) marks → IsSound (begun d known None)
    → (e : Expect) (s : List Holder) → length s ≤ d → answer (begun d string rest) e s ≡ read d marks (answer (begun d known None) e s)
more_reads d known string marks ms rest is first all may sound e s short =
    begun_reads d string ms rest is first (subst (RisingFrom 0) (sym all) (more_rising d known marks may sound)) e s short
    ∙ ap (λ ns. read d ns (went e s)) all
    ∙ read-append d (string_head known) marks (went e s)
    ∙ ap (λ ns. read d marks (read d ns (went e s))) (sym (bare known))
    ∙ ap (read d marks) (sym (then_by_went (read d (string_head known ++ []) (went e s))))

pub more_in : (Q : ℕ → Type 0) (d : ℕ) (known string : Option ℕ) (marks ms : List Mark) (rest : Option Rest) → IsBegun d ms rest
    → string_head string ++ ms ≡ string_head known ++ marks → AreIn Q (begun d known None) → EachIn (λ m. Q m.at) marks → AreIn Q (begun d string rest)
more_in Q d known string marks ms rest is all a c =
    begun_in Q d string ms rest is (subst (EachIn (λ m. Q m.at)) (sym all) (EachIn-append (λ m. Q m.at) (string_head known) marks (subst (EachIn (λ m. Q m.at)) (bare known) a.head) c))

-- ---- a structure that goes on

read_behind : (d : ℕ) (ms : List Mark) (f : Expect → List Holder → Reading) (r : Reading) → read d ms (then_by f r) ≡ then_by (λ e s. read d ms (f e s)) r
read_behind d ms f (went e s) = refl
read_behind d ms f (stopped at) = read_halted d ms at
read_behind d ms f (too_deep at) = read_deep d ms at

pub on_reads : (f : StructureValue) (t : Form) (ms : List Mark) → f.tail ≡ Some t → MayFollow f ms → IsSound f
    → (e : Expect) (s : List Holder) → length s ≤ f.depth → answer (on f (of_marks f.depth t ms)) e s ≡ read f.depth ms (answer f e s)
on_reads f t ms is may sound e s short =
    then_by_within f.depth (λ _ u. acts f.depth (of_marks f.depth t ms) u) (λ _ u. read f.depth ms (acts f.depth t u)) (read f.depth f.head (went e s)) (read_within f.depth f.head (went e s) short)
    (λ _ u w. acts-of_marks f.depth t ms may.between u (tail_is f t is sound).fits (subst (TailIn (λ p. p < may.between)) is may.left.tail) may.right w)
    ∙ sym (read_behind f.depth ms (λ _ u. acts f.depth t u) (read f.depth f.head (went e s)))
    ∙ ap (λ o. read f.depth ms (then_by (behind f.depth o) (read f.depth f.head (went e s)))) (sym is)

pub on_sound : (f : StructureValue) (t : Form) (ms : List Mark) → f.tail ≡ Some t → MayFollow f ms → IsSound f → IsSound (on f (of_marks f.depth t ms))
on_sound f t ms is may sound =
    let k = tail_is f t is sound in
    let low : end_of 0 f.head ≤ may.between = end_below may.between 0 f.head (omega arith) may.left.head in
    record {
      few = sound.few;
      rising = sound.rising;
      tail = record {
        fits = Fits-of_marks f.depth t ms k.fits;
        goes_on = GoesOn-of_marks f.depth t ms k.goes_on;
        offsets = OffsetsIn-of_marks (λ p. end_of 0 f.head ≤ p) f.depth t ms k.offsets (each_rising (end_of 0 f.head) may.between ms low may.right);
      };
    }

pub on_in : (Q : ℕ → Type 0) (f : StructureValue) (t : Form) (ms : List Mark) → f.tail ≡ Some t → AreIn Q f → EachIn (λ m. Q m.at) ms → AreIn Q (on f (of_marks f.depth t ms))
on_in Q f t ms is a c = record { head = a.head; tail = OffsetsIn-of_marks Q f.depth t ms (subst (TailIn Q) is a.tail) c }

-- the value where marks were read behind those that stand behind the string
pub on_is : (d : ℕ) (string : Option ℕ) (old : Option Rest) (rest next : Rest) (u : Form) → old ≡ Some rest → next.mark ≡ rest.mark → form_in next.tail ≡ u → begun d string (Some next) ≡ on (begun d string old) u
on_is d string old rest next u e mark form =
    let h : next.mark ∷ [] ≡ rest_head old = ap (λ (m : Mark). m ∷ []) mark ∙ sym (ap rest_head e) in
    λ i. record { depth = d; head = string_head string ++ h i; tail = Some (form i) }
