-- What the pieces of a cutting are, and what they cover.
use Rattle.std.proofs.Common.{◌≡◌, ℕ, zero, suc, ◌+◌, ◌-◌, ◌*◌, ◌<◌, ◌≤◌, min, true, false, List, [], ◌∷◌, ◌++◌, length, get_or, refl, sym, ap, ◌∙◌, subst, arith}
use Rattle.std.proofs.Math.Nat.{suc-mul, mul-le-mul_right}
use Rattle.std.specs.Prelude.{map, max, nat_lt, slice_index}
use mathlib.Core.Logic.{dite}
use native.Mathlib.Decide.{dec_lt}
use Rattle.std.proofs.lemmas.Bool.Decides.{nat_tests}
use Rattle.jx_summary.specs.declared.span.Span.{Span}
use Rattle.jx_claim.specs.Cut.{Tiles, OfSize, behind, span, span_len, no_span, meetings}
use Rattle.jx_claim.specs.CutFaults.{AreSound}
use Rattle.jx_claim.specs.inside.Listed.{regular, between, AreEnded}

-- pieces do not go back
covers_le : (a : ℕ) (ps : List Span) (b : ℕ) → Tiles a ps b → a ≤ b
covers_le a [] b e = omega (arith, e)
covers_le a (p ∷ ps) b c = omega (arith, c.1, covers_le p.end ps b c.2)

-- each piece is not empty and lies within what the pieces cover
pub covers_at : (a : ℕ) (ps : List Span) (b : ℕ) → Tiles a ps b → (k : ℕ) (d : Span) → k < length ps → ((get_or ps k d).start < (get_or ps k d).end) × ((get_or ps k d).end ≤ b)
covers_at a [] b c k d low = absurd (omega arith)
covers_at a (p ∷ ps) b c zero d low = (omega (arith, c.0, c.1), covers_le p.end ps b c.2)
covers_at a (p ∷ ps) b c (suc k) d low = covers_at p.end ps b c.2 k d (omega arith)

-- each piece ends behind where they begin
ends_behind : (a : ℕ) (ps : List Span) (b : ℕ) → Tiles a ps b → (i : ℕ) (d : Span) → i < length ps → a < (get_or ps i d).end
ends_behind a [] b c i d low = absurd (omega arith)
ends_behind a (p ∷ ps) b c zero d low = c.1
ends_behind a (p ∷ ps) b c (suc i) d low = omega (arith, c.1, ends_behind p.end ps b c.2 i d (omega arith))

-- later pieces end later
covers_rise : (a : ℕ) (ps : List Span) (b : ℕ) → Tiles a ps b → (i j : ℕ) (d : Span) → i ≤ j → j < length ps → (get_or ps i d).end ≤ (get_or ps j d).end
covers_rise a [] b c i j d le low = absurd (omega arith)
covers_rise a (p ∷ ps) b c zero zero d le low = omega arith
covers_rise a (p ∷ ps) b c zero (suc j) d le low = omega (arith, ends_behind p.end ps b c.2 j d (omega arith))
covers_rise a (p ∷ ps) b c (suc i) zero d le low = absurd (omega arith)
covers_rise a (p ∷ ps) b c (suc i) (suc j) d le low = covers_rise p.end ps b c.2 i j d (omega arith) (omega arith)

-- so is the one that was read
pub piece_covered : (a : ℕ) (ps : List Span) (len k : ℕ) (r : Span) → Tiles a ps len → k < length ps → get_or ps k r ≡ r → (r.start < r.end) × (r.end ≤ len)
piece_covered a ps len k r c low e = subst (λ (p : Span). (p.start < p.end) × (p.end ≤ len)) e (covers_at a ps len c k r low)

-- no bytes have no piece
pub covers_none : (a : ℕ) (ps : List Span) (b : ℕ) → Tiles a ps b → b ≤ a → length ps ≡ 0
covers_none a [] b c e = refl
covers_none a (p ∷ ps) b c e = absurd (omega (arith, c.1, covers_le p.end ps b c.2, e))

-- which piece ends behind an offset
is_behind : (n e : ℕ) → n < e → nat_lt n e ≡ true
is_behind n e h = grind (arith, nat_tests)

not_behind : (n e : ℕ) → e ≤ n → nat_lt n e ≡ false
not_behind n e h = grind (arith, nat_tests)

-- pieces that begin at an offset or behind it stay
pub behind_start : (a : ℕ) (ps : List Span) (b n : ℕ) → Tiles a ps b → n ≤ a → behind n ps ≡ ps
behind_start a [] b n c le = refl
behind_start a (p ∷ ps) b n c le =
    let m : max n p.start ≡ p.start = omega (arith, c.0, le) in
    rw (is_behind n p.end (omega (arith, c.1, le))) (λ i. span (m i) p.end ∷ behind_start p.end ps b n c.2 (omega (arith, c.1, le)) i)

-- the others cover what lies behind it
pub behind_covers : (a : ℕ) (ps : List Span) (b n : ℕ) → Tiles a ps b → a ≤ n → n ≤ b → Tiles n (behind n ps) b
behind_covers a [] b n c from to = omega (arith, c)
behind_covers a (p ∷ ps) b n c from to = dite (dec_lt n p.end)
    (λ l.
    let rest = behind_start p.end ps b n c.2 (omega arith) in
    let tail : Tiles p.end (behind n ps) b = subst (λ qs. Tiles p.end qs b) (sym rest) c.2 in
    rw (is_behind n p.end l) (omega (arith, c.0), l, tail))
    (λ h. rw (not_behind n p.end (omega arith)) (behind_covers p.end ps b n c.2 (omega arith) to))

-- what lies behind an earlier offset, and then behind a later one
pub behind_again : (m n : ℕ) (ps : List Span) → m ≤ n → behind n (behind m ps) ≡ behind n ps
behind_again m n [] le = refl
behind_again m n (p ∷ ps) le = dite (dec_lt n p.end)
    (λ l.
    let e : max n (max m p.start) ≡ max n p.start = omega (arith, le) in
    rw (is_behind m p.end (omega arith), is_behind n p.end l) (λ i. span (e i) p.end ∷ behind_again m n ps le i))
    (λ h. dite (dec_lt m p.end)
    (λ l. rw (is_behind m p.end l, not_behind n p.end (omega arith)) (behind_again m n ps le))
    (λ k. rw (not_behind m p.end (omega arith), not_behind n p.end (omega arith)) (behind_again m n ps le)))

ended_later : (n k : ℕ) (p : Span) (ps : List Span) → AreEnded n (suc k) (p ∷ ps) → AreEnded n k ps
ended_later n k p ps h = record {
  bound = omega (arith, h.bound);
  before = λ i d low. h.before (suc i) d (omega arith);
  after = λ i d le low. h.after (suc i) d (omega arith) (omega arith);
}

ended_none : (n : ℕ) (p : Span) (ps : List Span) → AreEnded n 0 (p ∷ ps) → AreEnded n 0 ps
ended_none n p ps h = record {
  bound = omega arith;
  before = λ i d low. absurd (omega arith);
  after = λ i d le low. h.after (suc i) d (omega arith) (omega arith);
}

-- where the first k pieces are left out, those behind an offset are the others
pub behind_len : (n k : ℕ) (ps : List Span) → AreEnded n k ps → length (behind n ps) + k ≡ length ps
behind_len n zero [] h = omega arith
behind_len n (suc k) [] h = absurd (omega (arith, h.bound))
behind_len n zero (p ∷ ps) h =
    rw (is_behind n p.end (h.after 0 p (omega arith) (omega arith))) (omega (arith, behind_len n 0 ps (ended_none n p ps h)))
behind_len n (suc k) (p ∷ ps) h =
    rw (not_behind n p.end (h.before 0 p (omega arith))) (omega (arith, behind_len n k ps (ended_later n k p ps h)))

-- which of the pieces lies at this place behind the offset
pub behind_at : (n k : ℕ) (ps : List Span) → AreEnded n k ps → (i : ℕ) (d : Span) → k + i < length ps
    → get_or (behind n ps) i d ≡ span (max n (get_or ps (k + i) d).start) (get_or ps (k + i) d).end
behind_at n k [] h i d low = absurd (omega arith)
behind_at n zero (p ∷ ps) h zero d low =
    let e : 0 + 0 ≡ 0 = omega arith in
    rw (is_behind n p.end (h.after 0 p (omega arith) (omega arith)), e) refl
behind_at n zero (p ∷ ps) h (suc i) d low =
    let e : 0 + suc i ≡ suc (0 + i) = omega arith in
    rw (is_behind n p.end (h.after 0 p (omega arith) (omega arith)), e) (behind_at n 0 ps (ended_none n p ps h) i d (omega arith))
behind_at n (suc k) (p ∷ ps) h i d low =
    let e : suc k + i ≡ suc (k + i) = omega arith in
    rw (not_behind n p.end (h.before 0 p (omega arith)), e) (behind_at n k ps (ended_later n k p ps h) i d (omega arith))

-- no piece ends at the start
pub none_ended : (ps : List Span) (b : ℕ) → Tiles 0 ps b → AreEnded 0 0 ps
none_ended ps b c = record {
  bound = omega arith;
  before = λ i d low. absurd (omega arith);
  after = λ i d le low. ends_behind 0 ps b c i d low;
}

-- where all before a place end at an offset or before it, and the one there behind it
pub ended_at : (ps : List Span) (b n k : ℕ) → Tiles 0 ps b → k ≤ length ps → ((i : ℕ) (d : Span) → i < k → (get_or ps i d).end ≤ n)
    → ((d : Span) → k < length ps → n < (get_or ps k d).end) → AreEnded n k ps
ended_at ps b n k c bound before here = record {
  bound = bound;
  before = before;
  after = λ i d le low. omega (arith, here d (omega arith), covers_rise 0 ps b c k i d le low);
}

-- all pieces end at the length or before it
pub all_ended : (ps : List Span) (b : ℕ) → Tiles 0 ps b → AreEnded b (length ps) ps
all_ended ps b c = record {
  bound = omega arith;
  before = λ i d low. (covers_at 0 ps b c i d low).1;
  after = λ i d le low. absurd (omega arith);
}

-- n regular pieces from a on, of which the last ends at len, cover the bytes from a to len
pub regular_covers : (len size n a : ℕ) → 0 < size → a ≤ len → len ≤ a + n * size → a + n * size < len + size → Tiles a (regular len size n a) len
regular_covers len size zero a some low enough few = omega arith
regular_covers len size (suc zero) a some low enough few =
    let e : min (a + size) len ≡ len = omega arith in
    (refl, omega arith, e)
regular_covers len size (suc (suc n)) a some low enough few =
    let one = suc-mul n size in
    let two = suc-mul (suc n) size in
    let e : min (a + size) len ≡ a + size = omega (arith, one, two) in
    let rest = regular_covers len size (suc n) (a + size) some (omega (arith, one, two)) (omega (arith, two)) (omega (arith, two)) in
    (refl, omega (arith, e), subst (λ m. Tiles m (regular len size (suc n) m) len) (sym e) rest)

pub length-regular : (len size n a : ℕ) → length (regular len size n a) ≡ n
length-regular len size zero a = refl
length-regular len size (suc n) a = ap suc (length-regular len size n (min (a + size) len))

-- where the regular piece of number i lies
pub regular_at : (len size n a i : ℕ) (d : Span) → 0 < size → i < n → a + n * size < len + size → get_or (regular len size n a) i d ≡ span (a + i * size) (min (a + i * size + size) len)
regular_at len size zero a i d some low few = absurd (omega arith)
regular_at len size (suc n) a zero d some low few = let e : a + 0 * size ≡ a = omega arith in rw e refl
regular_at len size (suc zero) a (suc i) d some low few = absurd (omega arith)
regular_at len size (suc (suc n)) a (suc i) d some low few =
    let one = suc-mul n size in
    let two = suc-mul (suc n) size in
    let e : min (a + size) len ≡ a + size = omega (arith, one, two) in
    let start : a + size + i * size ≡ a + suc i * size = omega (arith, suc-mul i size) in
    let rest = regular_at len size (suc n) (a + size) i d some (omega arith) (omega (arith, two)) in
    subst (λ m. get_or (regular len size (suc n) m) i d ≡ span (a + suc i * size) (min (a + suc i * size + size) len)) (sym e)
    (rest ∙ ap (λ m. span m (min (m + size) len)) start)

pub regular_is : (len size n i : ℕ) (d : Span) → 0 < size → i < n → n * size < len + size → get_or (regular len size n 0) i d ≡ span (i * size) (min (i * size + size) len)
regular_is len size n i d some low few =
    let e : 0 + i * size ≡ i * size = omega arith in
    regular_at len size n 0 i d some low (omega arith) ∙ ap (λ m. span m (min (m + size) len)) e

-- a regular piece begins before the end
pub regular_begins : (len size n i : ℕ) → i < n → n * size < len + size → i * size < len
regular_begins len size n i low few =
    let below : suc i ≤ n = omega arith in
    omega (arith, mul-le-mul_right size below, suc-mul i size)

-- regular pieces have `size` bytes, but the last may have fewer
pub regular_of_size : (len size n : ℕ) → 0 < size → n * size < len + size → OfSize size (regular len size n 0)
regular_of_size len size n some few = record {
  full = λ k low.
      let below : suc (suc k) ≤ n = omega (arith, length-regular len size n 0) in
      let at = regular_at len size n 0 k no_span some (omega arith) (omega arith) in
      let enough = mul-le-mul_right size below in
      ap span_len at ∙ omega (arith, enough, suc-mul (suc k) size, suc-mul k size);
  last = λ k low.
      let at = regular_at len size n 0 k no_span some (omega (arith, length-regular len size n 0)) (omega arith) in
      omega (arith, ap span_len at);
}

-- there are too many regular pieces exactly where they could not cover the text otherwise
pub few_enough : (len size n : ℕ) → len ≤ n * size → n ≤ 4294967295 → len ≤ 4294967295 * size
few_enough len size n enough low = omega (arith, mul-le-mul_right size low)

-- how many regular pieces end at an offset or before it
pub regular_ended : (len size n offset q : ℕ) → 0 < size → len ≤ n * size → n * size < len + size → offset < len → q * size ≤ offset → offset < q * size + size
    → AreEnded offset q (regular len size n 0)
regular_ended len size n offset q some enough few low below above = record {
  bound = dite (dec_lt n q)
      (λ l. let more : suc n ≤ q = omega arith in absurd (omega (arith, mul-le-mul_right size more, suc-mul n size)))
      (λ h. omega (arith, length-regular len size n 0));
  before = λ i d l.
      let less : suc i ≤ q = omega arith in
      let fits : i < n = dite (dec_lt i n) (λ y. y) (λ no. let more : n ≤ i = omega arith in absurd (omega (arith, mul-le-mul_right size less, mul-le-mul_right size more, suc-mul i size))) in
      omega (arith, ap (λ (p : Span). p.end) (regular_is len size n i d some fits few), mul-le-mul_right size less, suc-mul i size);
  after = λ i d le l.
      omega (arith, ap (λ (p : Span). p.end) (regular_is len size n i d some (omega (arith, length-regular len size n 0)) few), mul-le-mul_right size le);
}

pub length-between : (a : ℕ) (es : List ℕ) → length (between a es) ≡ length es
length-between a [] = refl
length-between a (e ∷ es) = ap suc (length-between e es)

-- where the piece of number i lies among those that end at these offsets
pub between_at : (a : ℕ) (es : List ℕ) (i : ℕ) (d : Span) → i < length es → get_or (between a es) i d ≡ span (slice_index (a ∷ es) i) (slice_index es i)
between_at a [] i d low = absurd (omega arith)
between_at a (e ∷ es) zero d low = refl
between_at a (e ∷ es) (suc i) d low = between_at e es i d (omega arith)

-- numbers above a, each above the one before it, and all below len
abbrev Rises : ℕ → List ℕ → ℕ → Type 0
Rises a [] len = a < len
Rises a (c ∷ cs) len = (a < c) × Rises c cs len

rises : (a : ℕ) (cs : List ℕ) (len : ℕ) → a < len → (0 < length cs → a < slice_index cs 0)
    → ((i : ℕ) → i < length cs → slice_index cs i < len) → ((i : ℕ) → suc i < length cs → slice_index cs i < slice_index cs (suc i)) → Rises a cs len
rises a [] len low first below next = low
rises a (c ∷ cs) len low first below next = (
  first (omega arith),
  rises c cs len (below 0 (omega arith)) (λ some. next 0 (omega arith)) (λ i l. below (suc i) (omega arith)) (λ i l. next (suc i) (omega arith)),
)

sound_rises : (len : ℕ) (cs : List ℕ) → 0 < len → AreSound len cs (length cs) → Rises 0 cs len
sound_rises len cs some sound = rises 0 cs len some (λ l. (sound 0 l).0.0) (λ i l. (sound i l).0.1)
    (λ i l. let e : suc i - 1 ≡ i = omega arith in subst (λ k. slice_index cs k < slice_index cs (suc i)) e ((sound (suc i) l).1 (omega arith)))

rises_cover : (a : ℕ) (cs : List ℕ) (len : ℕ) → Rises a cs len → Tiles a (between a (cs ++ len ∷ [])) len
rises_cover a [] len h = (refl, h, refl)
rises_cover a (c ∷ cs) len h = (refl, h.0, rises_cover c cs len h.1)

-- pieces that meet at sound cuts cover the text
pub cuts_cover : (len : ℕ) (cs : List ℕ) → 0 < len → AreSound len cs (length cs) → Tiles 0 (between 0 (cs ++ len ∷ [])) len
cuts_cover len cs some sound = rises_cover 0 cs len (sound_rises len cs some sound)

starts : (a : ℕ) (cs : List ℕ) (len : ℕ) → map (λ (q : Span). q.start) (between a (cs ++ len ∷ [])) ≡ a ∷ cs
starts a [] len = refl
starts a (c ∷ cs) len = ap (λ l. a ∷ l) (starts c cs len)

-- the pieces meet at the cuts
pub cuts_meet : (cs : List ℕ) (len : ℕ) → meetings (between 0 (cs ++ len ∷ [])) ≡ cs
cuts_meet [] len = refl
cuts_meet (c ∷ cs) len = starts c cs len
