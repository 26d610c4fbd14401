-- Structures: their answers, and how forms and structures go on with further marks.
use Rattle.std.proofs.Common.{◌≡◌, ℕ, ◌+◌, ◌<◌, ◌≤◌, List, [], ◌∷◌, ◌++◌, length, length-append, map, refl, sym, ◌∙◌, ap, subst, arith, Option, Some, None, Result, Ok, Err}
use Rattle.std.specs.Prelude.{IfOk}
use Rattle.std.proofs.lemmas.List.{length-map}
use Rattle.jx_reduce.specs.Entries.{expect_at}
use Rattle.jx_reduce.specs.Fits.{Fits}
use Rattle.jx_reduce.specs.Form.{Form, acts, level_of}
use Rattle.jx_reduce.specs.Marks.{of_marks, of_nothing, pushed}
use Rattle.jx_reduce.specs.Offsets.{EachIn, OffsetsIn, RisingFrom}
use Rattle.jx_reduce.specs.Read.{Reading, went, stopped, too_deep, top, then_by, read}
use Rattle.jx_reduce.specs.Structure.{StructureValue, behind, answer, IsJoin, TailIn, AreIn, IsBefore, IsSmall, IsTailOfSize, SpansIn}
use Rattle.jx_reduce.specs.inside.Quiet.{GoesOn}
use Rattle.jx_reduce.specs.inside.Structures.{string_at, end_of, IsTail, IsTailOf, IsSound, tail_behind, then_tail, followed_by}
use Rattle.jx_reduce.specs.declared.forms.entry.Entry.{Entry}
use Rattle.jx_reduce.specs.declared.table.expect.Expect.{Expect}
use Rattle.jx_reduce.specs.declared.table.expect.Expect.TheVariants as expect
use Rattle.jx_reduce.specs.declared.table.holder.Holder.{Holder}
use Rattle.jx_lex.specs.declared.alphabet.mark.Mark.{Mark}
use Rattle.jx_reduce.proofs.Bounds.{EachIn-append, Fits-joined, OffsetsIn-joined, apart}
use Rattle.jx_reduce.proofs.Exits.{GoesOn-joined, GoesOn-of_marks, GoesOn-of_nothing}
use Rattle.jx_reduce.proofs.Joined.{acts-joined, acts_over}
use Rattle.jx_reduce.proofs.Readings.{acts-of_nothing, Fits-of_nothing, OffsetsIn-of_nothing, read_halted, each_more, OffsetsIn_more, OffsetsIn-pushed, OffsetsIn-of_marks, Fits-of_marks, acts-of_marks, read_then, read-append}
use Rattle.jx_reduce.proofs.Runs.{read_within, then_by_within}
use Rattle.jx_reduce.proofs.Spans as spans

-- ---- readings that go on

pub then_by_went : (r : Reading) → then_by went r ≡ r
then_by_went (went e s) = refl
then_by_went (stopped at) = refl
then_by_went (too_deep at) = refl

pub then_by_twice : (f g : Expect → List Holder → Reading) (r : Reading) → then_by f (then_by g r) ≡ then_by (λ e s. then_by f (g e s)) r
then_by_twice f g (went e s) = refl
then_by_twice f g (stopped at) = refl
then_by_twice f g (too_deep at) = refl

-- marks, and then what goes on
pub read_and_then : (d : ℕ) (ms : List Mark) (f : Expect → List Holder → Reading) (r : Reading) → then_by f (read d ms r) ≡ then_by (λ e s. then_by f (read d ms (went e s))) r
read_and_then d ms f r = ap (then_by f) (read_then d ms r) ∙ then_by_twice f (λ e s. read d ms (went e s)) r

-- ---- where marks lie

pub tail_less : (P Q : ℕ → Type 0) → ((p : ℕ) → P p → Q p) → (t : Option Form) → TailIn P t → TailIn Q t
tail_less P Q h None a = tt
tail_less P Q h (Some t) a = OffsetsIn_more P Q t h a

pub AreIn_more : (P Q : ℕ → Type 0) (f : StructureValue) → ((p : ℕ) → P p → Q p) → AreIn P f → AreIn Q f
AreIn_more P Q f h a = record { head = each_more (λ m. P m.at) (λ m. Q m.at) (λ m. h m.at) f.head a.head; tail = tail_less P Q h f.tail a.tail }

-- a structure of a span may be joined with one of the span behind it
pub spans_before : (low between high : ℕ) (l r : StructureValue) → SpansIn low between l → SpansIn between high r → IsBefore l r
spans_before low between high l r a c =
    record {
      between = between;
      left = AreIn_more (λ p. (low ≤ p) × (p < between)) (λ p. p < between) l (λ p h. h.1) a;
      right = AreIn_more (λ p. (between ≤ p) × (p < high)) (λ p. between ≤ p) r (λ p h. h.0) c;
    }

pub spans_wider : (low high less more : ℕ) (f : StructureValue) → less ≤ low → high ≤ more → SpansIn low high f → SpansIn less more f
spans_wider low high less more f below above a =
    AreIn_more (λ p. (low ≤ p) × (p < high)) (λ p. (less ≤ p) × (p < more)) f (λ p h. let l = h.0 in let g = h.1 in (omega (arith, below, l), omega (arith, above, g))) a

pub rising_at : (b : ℕ) (ms : List Mark) → RisingFrom 0 ms → EachIn (λ m. b ≤ m.at) ms → RisingFrom b ms
rising_at b [] r a = tt
rising_at b (m ∷ ms) r a = (a.0, r.1)

below_end : (d b : ℕ) (t : Form) (ms : List Mark) → RisingFrom b ms → OffsetsIn (λ p. p < b) t → OffsetsIn (λ p. p < end_of b ms) (of_marks d t ms)
below_end d b t [] r a = a
below_end d b t (m ∷ ms) r a =
    below_end d (m.at + 1) (pushed d t m) ms r.1
    (OffsetsIn-pushed (λ p. p < m.at + 1) d t m (OffsetsIn_more (λ p. p < b) (λ p. p < m.at + 1) t (λ p h. omega (arith, h, r.0)) a) (omega arith))

behind_end : (b : ℕ) (ms : List Mark) (t : Form) → OffsetsIn (λ p. end_of 0 ms ≤ p) t → OffsetsIn (λ p. b ≤ p) t → OffsetsIn (λ p. end_of b ms ≤ p) t
behind_end b [] t a c = c
behind_end b (m ∷ ms) t a c = a

-- ---- a form that goes on with a structure

tail_at : (d mid : ℕ) (l t : Form) (s : List Holder) (x : Option Entry) → l.exit ≡ x → Fits d l → Fits d t → OffsetsIn (λ p. p < mid) l → OffsetsIn (λ p. mid ≤ p) t → length s ≤ d
    → acts d (tail_behind d l t x) s ≡ then_by (λ _ u. acts d t u) (acts d l s)
tail_at d mid l t s None e f g a c short = sym (acts_over d l s (λ _ u. acts d t u) e)
tail_at d mid l t s (Some x) e f g a c short = acts-joined d l t x mid s e (apart l t mid a c) f.levels f.risen g.risen short

then_at : (d mid : ℕ) (l : Form) (t : Option Form) (s : List Holder) → Fits d l → IsTailOf d mid t → OffsetsIn (λ p. p < mid) l → length s ≤ d
    → acts d (then_tail d l t) s ≡ then_by (behind d t) (acts d l s)
then_at d mid l None s f g a short = sym (then_by_went (acts d l s))
then_at d mid l (Some t) s f g a short = tail_at d mid l t s l.exit refl f g.fits a g.offsets short

tail_from : (d b : ℕ) (ms : List Mark) (t : Option Form) → IsTailOf d (end_of 0 ms) t → TailIn (λ p. b ≤ p) t → IsTailOf d (end_of b ms) t
tail_from d b ms None g a = tt
tail_from d b ms (Some t) g a = record { fits = g.fits; goes_on = g.goes_on; offsets = behind_end b ms t g.offsets a }

pub acts-followed : (f : StructureValue) (t : Form) (b : ℕ) (s : List Holder) → IsSound f → Fits f.depth t → OffsetsIn (λ p. p < b) t → AreIn (λ p. b ≤ p) f → length s ≤ f.depth
    → acts f.depth (followed_by t f) s ≡ then_by (answer f) (acts f.depth t s)
acts-followed f t b s sound fits below above short =
    let rising : RisingFrom b f.head = rising_at b f.head sound.rising above.head in
    then_at f.depth (end_of b f.head) (of_marks f.depth t f.head) f.tail s (Fits-of_marks f.depth t f.head fits)
    (tail_from f.depth b f.head f.tail sound.tail above.tail) (below_end f.depth b t f.head rising below) short
    ∙ ap (then_by (behind f.depth f.tail)) (acts-of_marks f.depth t f.head b s fits below rising short)
    ∙ read_and_then f.depth f.head (behind f.depth f.tail) (acts f.depth t s)

fits_behind : (d : ℕ) (l t : Form) (x : Option Entry) → Fits d l → Fits d t → Fits d (tail_behind d l t x)
fits_behind d l t None f g = f
fits_behind d l t (Some x) f g = Fits-joined d l t f g.risen g.decided

fits_then : (d b : ℕ) (l : Form) (t : Option Form) → Fits d l → IsTailOf d b t → Fits d (then_tail d l t)
fits_then d b l None f g = f
fits_then d b l (Some t) f g = fits_behind d l t l.exit f g.fits

pub Fits-followed : (f : StructureValue) (t : Form) → IsSound f → Fits f.depth t → Fits f.depth (followed_by t f)
Fits-followed f t sound fits = fits_then f.depth (end_of 0 f.head) (of_marks f.depth t f.head) f.tail (Fits-of_marks f.depth t f.head fits) sound.tail

goes_behind : (d : ℕ) (l t : Form) (x : Option Entry) → GoesOn l → GoesOn (tail_behind d l t x)
goes_behind d l t None g = g
goes_behind d l t (Some x) g = GoesOn-joined d l t

goes_then : (d : ℕ) (l : Form) (t : Option Form) → GoesOn l → GoesOn (then_tail d l t)
goes_then d l None g = g
goes_then d l (Some t) g = goes_behind d l t l.exit g

pub GoesOn-followed : (f : StructureValue) (t : Form) → GoesOn t → GoesOn (followed_by t f)
GoesOn-followed f t g = goes_then f.depth (of_marks f.depth t f.head) f.tail (GoesOn-of_marks f.depth t f.head g)

in_behind : (Q : ℕ → Type 0) (d : ℕ) (l t : Form) (x : Option Entry) → OffsetsIn Q l → OffsetsIn Q t → OffsetsIn Q (tail_behind d l t x)
in_behind Q d l t None a c = a
in_behind Q d l t (Some x) a c = OffsetsIn-joined Q d l t a c

in_then : (Q : ℕ → Type 0) (d : ℕ) (l : Form) (t : Option Form) → OffsetsIn Q l → TailIn Q t → OffsetsIn Q (then_tail d l t)
in_then Q d l None a c = a
in_then Q d l (Some t) a c = in_behind Q d l t l.exit a c

pub OffsetsIn-followed : (Q : ℕ → Type 0) (f : StructureValue) (t : Form) → OffsetsIn Q t → AreIn Q f → OffsetsIn Q (followed_by t f)
OffsetsIn-followed Q f t a c = in_then Q f.depth (of_marks f.depth t f.head) f.tail (OffsetsIn-of_marks Q f.depth t f.head a c.head) c.tail

-- ---- the form from one entry

tail_anywhere : (t : Option Form) → TailIn (λ p. 0 ≤ p) t
tail_anywhere None = tt
tail_anywhere (Some t) = spans.anywhere t

anywhere : (f : StructureValue) → AreIn (λ p. 0 ≤ p) f
anywhere f = record { head = spans.each_any (λ m. 0 ≤ m.at) (λ m. omega arith) f.head; tail = tail_anywhere f.tail }

pub acts-from_nothing : (f : StructureValue) (x : Entry) (s : List Holder) → IsSound f → length s ≤ f.depth
    → acts f.depth (followed_by (of_nothing x) f) s ≡ answer f (expect_at x (top s)) s
acts-from_nothing f x s sound short =
    acts-followed f (of_nothing x) 0 s sound (Fits-of_nothing f.depth x) (OffsetsIn-of_nothing (λ p. p < 0) x) (anywhere f) short
    ∙ ap (then_by (answer f)) (acts-of_nothing f.depth x s)

-- ---- joins

-- the left has a form: that goes on with the right
abbrev pub on : StructureValue → Form → StructureValue
on l t = record { depth = l.depth; head = l.head; tail = Some t }

pub tail_is : (l : StructureValue) (t : Form) → l.tail ≡ Some t → IsSound l → IsTail l.depth (end_of 0 l.head) t
tail_is l t is sound = subst (IsTailOf l.depth (end_of 0 l.head)) is sound.tail

pub join_on : (l r : StructureValue) (t : Form) → l.depth ≡ r.depth → l.tail ≡ Some t → IsBefore l r → IsSound l → IsSound r → IsJoin l r (on l (followed_by t r))
join_on l r t same is before left right e s short =
    then_by_within l.depth (λ _ u. acts l.depth (followed_by t r) u) (λ _ u. then_by (answer r) (acts l.depth t u)) (read l.depth l.head (went e s))
    (read_within l.depth l.head (went e s) short) (λ _ u w. here u w)
    ∙ sym (then_by_twice (answer r) (λ _ u. acts l.depth t u) (read l.depth l.head (went e s)))
    ∙ ap (λ o. then_by (answer r) (then_by (behind l.depth o) (read l.depth l.head (went e s)))) (sym is)
  where
    below : OffsetsIn (λ p. p < before.between) t
    below = subst (TailIn (λ p. p < before.between)) is before.left.tail

    here : (u : List Holder) → length u ≤ l.depth → acts l.depth (followed_by t r) u ≡ then_by (answer r) (acts l.depth t u)
    here u w =
        ap (λ d. acts d (followed_by t r) u) same
        ∙ acts-followed r t before.between u right (subst (λ d. Fits d t) same (tail_is l t is left).fits) below before.right (subst (λ d. length u ≤ d) same w)
        ∙ ap (λ d. then_by (answer r) (acts d t u)) (sym same)

pub end_below : (b c : ℕ) (ms : List Mark) → c ≤ b → EachIn (λ m. m.at < b) ms → end_of c ms ≤ b
end_below b c [] h a = h
end_below b c (m ∷ ms) h a = end_below b (m.at + 1) ms (omega (arith, a.0)) a.1

pub sound_on : (l r : StructureValue) (t : Form) → l.depth ≡ r.depth → l.tail ≡ Some t → IsBefore l r → IsSound l → IsSound r → IsSound (on l (followed_by t r))
sound_on l r t same is before left right =
    let k = tail_is l t is left in
    let low : end_of 0 l.head ≤ before.between = end_below before.between 0 l.head (omega arith) before.left.head in
    record {
      few = left.few;
      rising = left.rising;
      tail = record {
        fits = subst (λ d. Fits d (followed_by t r)) (sym same) (Fits-followed r t right (subst (λ d. Fits d t) same k.fits));
        goes_on = GoesOn-followed r t k.goes_on;
        offsets = OffsetsIn-followed (λ p. end_of 0 l.head ≤ p) r t k.offsets (AreIn_more (λ p. before.between ≤ p) (λ p. end_of 0 l.head ≤ p) r (λ p h. omega (arith, h, low)) before.right);
      };
    }

pub in_on : (Q : ℕ → Type 0) (l r : StructureValue) (t : Form) → l.tail ≡ Some t → AreIn Q l → AreIn Q r → AreIn Q (on l (followed_by t r))
in_on Q l r t is a c = record { head = a.head; tail = OffsetsIn-followed Q r t (subst (TailIn Q) is a.tail) c }

-- the left has no form: the right stands behind its marks
abbrev pub put : StructureValue → StructureValue → StructureValue
put l r = record { depth = l.depth; head = l.head ++ r.head; tail = r.tail }

pub join_put : (l r : StructureValue) → l.depth ≡ r.depth → l.tail ≡ None → IsJoin l r (put l r)
join_put l r same is e s short =
    ap (then_by (behind l.depth r.tail)) (read-append l.depth l.head r.head (went e s))
    ∙ read_and_then l.depth r.head (behind l.depth r.tail) (read l.depth l.head (went e s))
    ∙ ap (λ d. then_by (λ e s. then_by (behind d r.tail) (read d r.head (went e s))) (read l.depth l.head (went e s))) same
    ∙ ap (then_by (answer r)) (sym (then_by_went (read l.depth l.head (went e s))))
    ∙ ap (λ o. then_by (answer r) (then_by (behind l.depth o) (read l.depth l.head (went e s)))) (sym is)

pub rising_put : (b c : ℕ) (ms ns : List Mark) → RisingFrom c ms → EachIn (λ m. m.at < b) ms → c ≤ b → EachIn (λ m. b ≤ m.at) ns → RisingFrom 0 ns → RisingFrom c (ms ++ ns)
rising_put b c [] ns r a h k t = rising_at c ns t (each_more (λ m. b ≤ m.at) (λ m. c ≤ m.at) (λ m g. omega (arith, g, h)) ns k)
rising_put b c (m ∷ ms) ns r a h k t = (r.0, rising_put b (m.at + 1) ms ns r.1 a.1 (omega (arith, a.0)) k t)

pub end_put : (c : ℕ) (ms ns : List Mark) → end_of c (ms ++ ns) ≡ end_of (end_of c ms) ns
end_put c [] ns = refl
end_put c (m ∷ ms) ns = end_put (m.at + 1) ms ns

pub sound_put : (l r : StructureValue) → l.depth ≡ r.depth → IsBefore l r → IsSound l → IsSound r → length (l.head ++ r.head) ≤ 2 → IsSound (put l r)
sound_put l r same before left right few =
    let low : end_of 0 l.head ≤ before.between = end_below before.between 0 l.head (omega arith) before.left.head in
    record {
      few = few;
      rising = rising_put before.between 0 l.head r.head left.rising before.left.head (omega arith) before.right.head right.rising;
      tail = subst (λ n. IsTailOf l.depth n r.tail) (sym (end_put 0 l.head r.head))
          (subst (λ d. IsTailOf d (end_of (end_of 0 l.head) r.head) r.tail) (sym same)
          (tail_from r.depth (end_of 0 l.head) r.head r.tail right.tail (tail_less (λ p. before.between ≤ p) (λ p. end_of 0 l.head ≤ p) (λ p h. omega (arith, h, low)) r.tail before.right.tail)));
    }

pub in_put : (Q : ℕ → Type 0) (l r : StructureValue) → AreIn Q l → AreIn Q r → AreIn Q (put l r)
in_put Q l r a c = record { head = EachIn-append (λ m. Q m.at) l.head r.head a.head c.head; tail = c.tail }

-- two strings, behind which nothing goes on, whatever stands there
abbrev pub two : ℕ → ℕ → ℕ → Form → StructureValue
two d p q t = record { depth = d; head = string_at p ∷ string_at q ∷ []; tail = Some t }

behind_two : (d p q : ℕ) (f g : Expect → List Holder → Reading) (more : List Mark) (e : Expect) (s : List Holder)
    → then_by f (read d (string_at p ∷ string_at q ∷ []) (went e s)) ≡ then_by (λ e s. then_by g (read d (string_at q ∷ more) (went e s))) (read d (string_at p ∷ []) (went e s))
behind_two d p q f g more expect.Value s = ap (then_by g) (sym (read_halted d more q))
behind_two d p q f g more expect.ArrayFirst s = ap (then_by g) (sym (read_halted d more q))
behind_two d p q f g more expect.ObjectFirst s = ap (then_by g) (sym (read_halted d more q))
behind_two d p q f g more expect.Name s = ap (then_by g) (sym (read_halted d more q))
behind_two d p q f g more expect.Colon s = refl
behind_two d p q f g more expect.After s = refl

pub join_two : (l r : StructureValue) (p q : ℕ) (more : List Mark) (t : Form) → l.depth ≡ r.depth → l.head ≡ string_at p ∷ [] → l.tail ≡ None → r.head ≡ string_at q ∷ more → IsJoin l r (two l.depth p q t)
join_two l r p q more t same head is next e s short =
    behind_two l.depth p q (behind l.depth (Some t)) (behind l.depth r.tail) more e s
    ∙ ap (λ ms. then_by (λ e s. then_by (behind l.depth r.tail) (read l.depth ms (went e s))) (read l.depth (string_at p ∷ []) (went e s))) (sym next)
    ∙ ap (λ d. then_by (λ e s. then_by (behind d r.tail) (read d r.head (went e s))) (read l.depth (string_at p ∷ []) (went e s))) same
    ∙ ap (λ ms. then_by (answer r) (read l.depth ms (went e s))) (sym head)
    ∙ ap (then_by (answer r)) (sym (then_by_went (read l.depth l.head (went e s))))
    ∙ ap (λ o. then_by (answer r) (then_by (behind l.depth o) (read l.depth l.head (went e s)))) (sym is)

pub sound_two : (l r : StructureValue) (p q : ℕ) (more : List Mark) (x : Entry) → l.head ≡ string_at p ∷ [] → r.head ≡ string_at q ∷ more → IsBefore l r → IsSound (two l.depth p q (of_nothing x))
sound_two l r p q more x head next before =
    let a = subst (EachIn (λ m. m.at < before.between)) head before.left.head in
    let c = subst (EachIn (λ m. before.between ≤ m.at)) next before.right.head in
    record {
      few = omega arith;
      rising = (omega arith, (omega (arith, a.0, c.0), tt));
      tail = record { fits = Fits-of_nothing l.depth x; goes_on = GoesOn-of_nothing x; offsets = OffsetsIn-of_nothing (λ p. q + 1 ≤ p) x };
    }

pub in_two : (Q : ℕ → Type 0) (l r : StructureValue) (p q : ℕ) (more : List Mark) (x : Entry) → l.head ≡ string_at p ∷ [] → r.head ≡ string_at q ∷ more → AreIn Q l → AreIn Q r → AreIn Q (two l.depth p q (of_nothing x))
in_two Q l r p q more x head next a c =
    record {
      head = ((subst (EachIn (λ m. Q m.at)) head a.head).0, ((subst (EachIn (λ m. Q m.at)) next c.head).0, tt));
      tail = OffsetsIn-of_nothing Q x;
    }

-- ---- how much is kept

small_tail : (d b : ℕ) (t : Option Form) → IsTailOf d b t → IsTailOfSize d t
small_tail d b None k = tt
small_tail d b (Some t) k =
    let f = k.fits in
    let more = length-append (map level_of t.ended) (t.last ∷ []) in
    let same = length-map t.ended level_of in
    record { levels = omega (arith, more, same, f.levels); opens = f.opens; heights = f.heights }

pub small_of : (f : StructureValue) → IsSound f → IsSmall f.depth f
small_of f sound = record { head = sound.few; tail = small_tail f.depth (end_of 0 f.head) f.tail sound.tail }

-- ---- answers of calls

pub if_both : {T E : Type 0} (r : Result T E) {P Q R : T → Type 0} → ((x : T) → P x → Q x → R x) → IfOk r P → IfOk r Q → IfOk r R
if_both (Ok x) f p q = f x p q
if_both (Err e) f p q = tt
