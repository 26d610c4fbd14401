-- Each deed of the hand-over machine keeps every piece in one place.
use Rattle.std.proofs.Common.{◌≡◌, ◌⊎◌, ℕ, zero, suc, ◌+◌, ◌-◌, ◌<◌, ◌≤◌, cond, true, false, List, [], ◌∷◌, ◌++◌, refl, sym, ap, ◌∙◌, subst, ⊎_elim, inl, inr, arith}
use Rattle.std.specs.Prelude.{sum_by, nat_lt, nat_eq}
use Rattle.std.specs.List.{range_with_len}
use mathlib.Core.Option.{some, some-injective, some-ne-none}
use mathlib.Core.Logic.{dite}
use native.Mathlib.Decide.{dec_lt, ℕ_discrete}
use lib.ListN.{get_elem?, set}
use Rattle.std.proofs.lemmas.Bool.Decides.{nat_tests}
use Rattle.std.proofs.lemmas.List.Sums.{sum_by-cons, sum_by-append}
use Rattle.jx_summary.specs.declared.span.Span.{Span}
use Rattle.jx_book.specs.Spans.{span, Touch}
use Rattle.jx_claim.specs.Claimed.{times, once_below}
use Rattle.jx_claim.specs.Undrawn.{With, undrawn}
use Rattle.jx_book.specs.HandOver.{Deed, draw, store, take_neighbour, stop, Worker, worker, Machine, NoneTouch, joined, Steps, Leads, idle, start, in_block, in_hands, places, whole_of, NoTwoTouch, Core}

-- 1 for a piece, and else 0
abbrev once : ℕ → ℕ → ℕ
once p n = once_below p n

-- 1 where q is p, and else 0
abbrev is_at : ℕ → ℕ → ℕ
is_at p q = cond (nat_eq q p) 1 0

in_yes : (p : ℕ) (b : Span) → b.start ≤ p → p < b.end → in_block p b ≡ 1
in_yes p b h l = grind (arith, nat_tests)

in_low : (p : ℕ) (b : Span) → p < b.start → in_block p b ≡ 0
in_low p b h = grind (arith, nat_tests)

in_high : (p : ℕ) (b : Span) → b.end ≤ p → in_block p b ≡ 0
in_high p b h = grind (arith, nat_tests)

in_case : (p : ℕ) (b : Span) → ((b.start ≤ p) × (p < b.end) × (in_block p b ≡ 1)) ⊎ (in_block p b ≡ 0)
in_case p b = dite (dec_lt p b.start) (λ l. inr (in_low p b l)) (λ n. dite (dec_lt p b.end) (λ m. inl (omega arith, m, in_yes p b (omega arith) m)) (λ m. inr (in_high p b (omega arith))))

one_at : (p q : ℕ) → in_block p (span q (suc q)) ≡ is_at p q
one_at p q = grind (arith, nat_tests)

joined_first : (n b : Span) → n.start < b.start → joined n b ≡ span n.start b.end
joined_first n b l = let t : nat_lt n.start b.start ≡ true = grind (arith, nat_tests) in rw t refl

joined_last : (n b : Span) → b.start ≤ n.start → joined n b ≡ span b.start n.end
joined_last n b l = let t : nat_lt n.start b.start ≡ false = grind (arith, nat_tests) in rw t refl

-- two blocks that meet at m
meets : (p a m c : ℕ) → a < m → m < c → in_block p (span a c) ≡ in_block p (span a m) + in_block p (span m c)
meets p a m c l k = dite (dec_lt p m)
    (λ low. dite (dec_lt p a)
    (λ lower. omega (arith, in_low p (span a c) lower, in_low p (span a m) lower, in_low p (span m c) low))
    (λ n. omega (arith, in_yes p (span a c) (omega arith) (omega arith), in_yes p (span a m) (omega arith) low, in_low p (span m c) low)))
    (λ n. dite (dec_lt p c)
    (λ low. omega (arith, in_yes p (span a c) (omega arith) low, in_high p (span a m) (omega arith), in_yes p (span m c) (omega arith) low))
    (λ h. omega (arith, in_high p (span a c) (omega arith), in_high p (span a m) (omega arith), in_high p (span m c) (omega arith))))

same_block : (p : ℕ) (b : Span) (a c : ℕ) → b.start ≡ a → b.end ≡ c → in_block p (span a c) ≡ in_block p b
same_block p b a c e f = λ i. in_block p (span (sym e i) (sym f i))

joins : (p : ℕ) (n b : Span) → n.start < n.end → b.start < b.end → Touch n b → in_block p (joined n b) ≡ in_block p n + in_block p b
joins p n b fn fb (inl t) =
    rw (joined_first n b (omega arith)) (omega (arith, meets p n.start n.end b.end fn (omega arith), same_block p n n.start n.end refl refl, same_block p b n.end b.end (sym t) refl))
joins p n b fn fb (inr t) =
    rw (joined_last n b (omega arith)) (omega (arith, meets p b.start b.end n.end fb (omega arith), same_block p b b.start b.end refl refl, same_block p n b.end n.end (sym t) refl))

filled_joined : (n b : Span) → n.start < n.end → b.start < b.end → Touch n b → (joined n b).start < (joined n b).end
filled_joined n b fn fb (inl t) = rw (joined_first n b (omega arith)) (omega arith)
filled_joined n b fn fb (inr t) = rw (joined_last n b (omega arith)) (omega arith)

abbrev Filled : List Span → Type 0
Filled [] = Unit {0}
Filled (b ∷ bs) = (b.start < b.end) × Filled bs

one_more : (p n : ℕ) → once p n + is_at p n ≡ once p (suc n)
one_more p n = grind (arith, nat_tests)

none_below : (p : ℕ) → once p 0 ≡ 0
none_below p = grind (arith, nat_tests)

-- numbers from a on
counted_from : (p a n : ℕ) → times p (range_with_len a n) + once p a ≡ once p (a + n)
counted_from p a zero = let e : a + 0 ≡ a = omega arith in omega (arith, ap (once p) e)
counted_from p a (suc n) =
    let e : a + 1 ≡ suc a = omega arith in
    let m : a + 1 + n ≡ a + suc n = omega arith in
    omega (arith, sum_by-cons (is_at p) a (range_with_len (a + 1) n), counted_from p (a + 1) n, one_more p a, ap (once p) e, ap (once p) m)

drawn_all : (p n : ℕ) → times p (undrawn 0 n) ≡ once p n
drawn_all p n = let e : 0 + (n - 0) ≡ n = omega arith in omega (arith, counted_from p 0 (n - 0), none_below p, ap (once p) e)

no_hands : (p m : ℕ) → in_hands p (idle m) ≡ 0
no_hands p zero = refl
no_hands p (suc m) = omega (arith, sum_by-cons (λ (w : Worker). sum_by (in_block p) w.hand) (worker [] false) (idle m), no_hands p m)

-- what the list holds besides x
with_sum : {X : Type 0} (f : X → ℕ) (x : X) (less more : List X) → With x less more → sum_by f more ≡ f x + sum_by f less
with_sum f x less more (front, back, a, b) =
    ap (sum_by f) b ∙ omega (arith, ap (sum_by f) a, sum_by-append f front (x ∷ back), sum_by-append f front back, sum_by-cons f x back)

filled_less : (x : Span) (front back : List Span) → Filled (front ++ x ∷ back) → (x.start < x.end) × Filled (front ++ back)
filled_less x [] back h = h
filled_less x (y ∷ ys) back h = let r = filled_less x ys back h.1 in (r.0, (h.0, r.1))

none_less : (a x : Span) (front back : List Span) → NoneTouch a (front ++ x ∷ back) → NoneTouch a (front ++ back)
none_less a x [] back h = h.1
none_less a x (y ∷ ys) back h = (h.0, none_less a x ys back h.1)

apart_less : (x : Span) (front back : List Span) → NoTwoTouch (front ++ x ∷ back) → NoTwoTouch (front ++ back)
apart_less x [] back h = h.1
apart_less x (y ∷ ys) back h = (none_less y x ys back h.0, apart_less x ys back h.1)

turned : (a b : Span) → Touch a b → Touch b a
turned a b (inl e) = inr e
turned a b (inr e) = inl e

filled_more : (x : Span) (front back : List Span) → x.start < x.end → Filled (front ++ back) → Filled (front ++ x ∷ back)
filled_more x [] back f h = (f, h)
filled_more x (y ∷ ys) back f h = (h.0, filled_more x ys back f h.1)

none_more : (a x : Span) (front back : List Span) → (Touch a x → ⊥) → NoneTouch a (front ++ back) → NoneTouch a (front ++ x ∷ back)
none_more a x [] back n h = (n, h)
none_more a x (y ∷ ys) back n h = (h.0, none_more a x ys back n h.1)

apart_more : (x : Span) (front back : List Span) → NoneTouch x (front ++ back) → NoTwoTouch (front ++ back) → NoTwoTouch (front ++ x ∷ back)
apart_more x [] back n h = (n, h)
apart_more x (y ∷ ys) back n h = (none_more y x ys back (λ e. n.0 (turned y x e)) h.0, apart_more x ys back n.1 h.1)

hands_set : (p : ℕ) (ws : List Worker) (k : ℕ) (v w : Worker) → get_elem? ws k ≡ some v → in_hands p (set ws k w) + sum_by (in_block p) v.hand ≡ in_hands p ws + sum_by (in_block p) w.hand
hands_set p [] k v w e = absurd (some-ne-none v (sym e))
hands_set p (x ∷ xs) zero v w e =
    let f : Worker → ℕ = λ u. sum_by (in_block p) u.hand in
    omega (arith, sum_by-cons f x xs, sum_by-cons f w xs, ap f (some-injective x v e))
hands_set p (x ∷ xs) (suc k) v w e =
    let f : Worker → ℕ = λ u. sum_by (in_block p) u.hand in
    omega (arith, sum_by-cons f x xs, sum_by-cons f x (set xs k w), hands_set p xs k v w e)

abbrev AllFilled : List Worker → Type 0
AllFilled [] = Unit {0}
AllFilled (w ∷ ws) = Filled w.hand × AllFilled ws

hand_filled : (ws : List Worker) (k : ℕ) (v : Worker) → get_elem? ws k ≡ some v → AllFilled ws → Filled v.hand
hand_filled [] k v e h = absurd (some-ne-none v (sym e))
hand_filled (x ∷ xs) zero v e h = subst (λ (w : Worker). Filled w.hand) (some-injective x v e) h.0
hand_filled (x ∷ xs) (suc k) v e h = hand_filled xs k v e h.1

set_filled : (ws : List Worker) (k : ℕ) (w : Worker) → AllFilled ws → Filled w.hand → AllFilled (set ws k w)
set_filled [] k w h f = tt
set_filled (x ∷ xs) zero w h f = (f, h.1)
set_filled (x ∷ xs) (suc k) w h f = (h.0, set_filled xs k w h.1 f)

idle_filled : (m : ℕ) → AllFilled (idle m)
idle_filled zero = tt
idle_filled (suc m) = (tt, idle_filled m)

record Keeps (n : ℕ) (s : Machine) : Type 0 where
  one_place : (p : ℕ) → places s p ≡ once p n
  apart : NoTwoTouch s.stored
  hands : AllFilled s.workers
  filled : Filled s.stored

begins : (n m : ℕ) → Keeps n (start n m)
begins n m = record {
  one_place = λ p. omega (arith, drawn_all p n, no_hands p m);
  apart = tt;
  hands = idle_filled m;
  filled = tt;
}

kept : (n : ℕ) (s : Machine) (e : Deed) (t : Machine) → Keeps n s → Steps s e t → Keeps n t
kept n s (draw w) t k (p, less, with, at, is) =
    let b = span p (suc p) in
    subst (Keeps n) (sym is) (record {
      one_place = λ q. omega (arith, k.one_place q, with_sum (is_at q) p less s.undrawn with, hands_set q s.workers w (worker [] false) (worker (b ∷ []) false) at, one_at q p);
      apart = k.apart;
      hands = set_filled s.workers w (worker (b ∷ []) false) k.hands (omega arith, tt);
      filled = k.filled;
    })
kept n s (store w) t k (b, more, at, (none_touch, (front, back, a, m)), is) =
    let fb = (hand_filled s.workers w (worker (b ∷ []) false) at k.hands).0 in
    subst (Keeps n) (sym is) (record {
      one_place = λ q. omega (arith, k.one_place q, with_sum (in_block q) b s.stored more (front, back, a, m), hands_set q s.workers w (worker (b ∷ []) false) (worker [] false) at);
      apart = subst NoTwoTouch (sym m) (apart_more b front back (subst (NoneTouch b) a none_touch) (subst NoTwoTouch a k.apart));
      hands = set_filled s.workers w (worker [] false) k.hands tt;
      filled = subst Filled (sym m) (filled_more b front back fb (subst Filled a k.filled));
    })
kept n s (take_neighbour w) t k (b, x, less, at, ((front, back, a, m), touch), is) =
    let f = filled_less x front back (subst Filled m k.filled) in
    let fb = (hand_filled s.workers w (worker (b ∷ []) false) at k.hands).0 in
    subst (Keeps n) (sym is) (record {
      one_place = λ q. omega (arith, k.one_place q, with_sum (in_block q) x less s.stored (front, back, a, m), hands_set q s.workers w (worker (b ∷ []) false) (worker (joined x b ∷ []) false) at, joins q x b f.0 fb touch);
      apart = subst NoTwoTouch (sym a) (apart_less x front back (subst NoTwoTouch m k.apart));
      hands = set_filled s.workers w (worker (joined x b ∷ []) false) k.hands (filled_joined x b f.0 fb touch, tt);
      filled = subst Filled (sym a) f.1;
    })
kept n s (stop w) t k (h, at, is) =
    subst (Keeps n) (sym is) (record {
      one_place = λ q. omega (arith, k.one_place q, hands_set q s.workers w (worker h false) (worker h true) at);
      apart = k.apart;
      hands = set_filled s.workers w (worker h true) k.hands (hand_filled s.workers w (worker h false) at k.hands);
      filled = k.filled;
    })

all_kept : (n : ℕ) (s : Machine) (es : List Deed) (t : Machine) → Keeps n s → Leads s es t → Keeps n t
all_kept n s [] t k is = subst (Keeps n) (sym is) k
all_kept n s (e ∷ es) t k (u, step, rest) = all_kept n u es t (kept n s e u k step) rest

-- a block of the list that has the piece p, and the other blocks
record Found (p : ℕ) (bs : List Span) : Type 0 where
  it : Span
  rest : List Span
  has : (it.start ≤ p) × (p < it.end)
  sum : (q : ℕ) → sum_by (in_block q) bs ≡ in_block q it + sum_by (in_block q) rest
  apart : NoTwoTouch bs → NoneTouch it rest
  clear : (x : Span) → NoneTouch x bs → (Touch x it → ⊥) × NoneTouch x rest
  filled : Filled bs → (it.start < it.end) × Filled rest
  only : rest ≡ [] → bs ≡ it ∷ []

find : (p : ℕ) (bs : List Span) → 0 < sum_by (in_block p) bs → Found p bs
find p [] h = absurd (omega arith)
find p (b ∷ bs) h = ⊎_elim
    (λ (t : (b.start ≤ p) × (p < b.end) × (in_block p b ≡ 1)). record {
      it = b;
      rest = bs;
      has = (t.0, t.1);
      sum = λ q. sum_by-cons (in_block q) b bs;
      apart = λ a. a.0;
      clear = λ x a. (a.0, a.1);
      filled = λ f. (f.0, f.1);
      only = λ e. ap (λ (l : List Span). b ∷ l) e;
    })
    (λ (t : in_block p b ≡ 0).
    let f = find p bs (omega (arith, sum_by-cons (in_block p) b bs)) in record {
      it = f.it;
      rest = b ∷ f.rest;
      has = f.has;
      sum = λ q. omega (arith, f.sum q, sum_by-cons (in_block q) b bs, sum_by-cons (in_block q) b f.rest);
      apart = λ a. let c = f.clear b a.0 in ((λ e. c.0 (turned f.it b e)), f.apart a.1);
      clear = λ x a. let c = f.clear x a.1 in (c.0, (a.0, c.1));
      filled = λ g. let r = f.filled g.1 in (r.0, (g.0, r.1));
      only = λ e. cc;
    })
    (in_case p b)

is_piece : (p n : ℕ) → p < n → once p n ≡ 1
is_piece p n h = grind (arith, nat_tests)

no_piece : (p n : ℕ) → n ≤ p → once p n ≡ 0
no_piece p n h = grind (arith, nat_tests)

none_left : (bs : List Span) → Filled bs → ((q : ℕ) → sum_by (in_block q) bs ≡ 0) → bs ≡ []
none_left [] f h = refl
none_left (b ∷ bs) f h = absurd (omega (arith, h b.start, sum_by-cons (in_block b.start) b bs, in_yes b.start b (omega arith) f.0))

-- a block from 0 that has no piece from n on, and that no other block touches, is all of them
ends : (n : ℕ) (bs : List Span) → ((p : ℕ) → sum_by (in_block p) bs ≡ once p n) → NoTwoTouch bs → Filled bs → (f : Found 0 bs) → f.it.end ≡ n
ends n bs sum apart filled f = dite (dec_lt n f.it.end)
    (λ over.
    let p = f.it.end - 1 in
    absurd (omega (arith, sum p, no_piece p n (omega arith), f.sum p, in_yes p f.it (omega (arith, f.has)) (omega arith))))
    (λ not. dite (ℕ_discrete f.it.end n) (λ e. e)
    (λ ne.
    let m = f.it.end in
    let fill = f.filled filled in
    let g = find m f.rest (omega (arith, sum m, is_piece m n (omega arith), f.sum m, in_high m f.it (omega arith))) in
    let clear = g.clear f.it (f.apart apart) in
    dite (ℕ_discrete g.it.start m)
    (λ e. absurd (clear.0 (inl (sym e))))
    (λ other.
    let q = m - 1 in
    absurd (omega (arith, sum q, is_piece q n (omega arith), f.sum q, g.sum q, in_yes q f.it (omega (arith, f.has)) (omega (arith, fill.0)), in_yes q g.it (omega (arith, g.has)) (omega (arith, g.has)))))))

-- where blocks hold each piece once, none of them touching, there is one block
one_block : (n : ℕ) (bs : List Span) → ((p : ℕ) → sum_by (in_block p) bs ≡ once p n) → NoTwoTouch bs → Filled bs → bs ≡ whole_of n
one_block zero bs sum apart filled = none_left bs filled (λ q. sum q ∙ no_piece q 0 (omega arith))
one_block (suc n) bs sum apart filled =
    let some_piece : 0 < sum_by (in_block 0) bs = omega (arith, sum 0, is_piece 0 (suc n) (omega arith)) in
    one_found n bs sum apart filled (find 0 bs some_piece)
  where
    one_found : (n : ℕ) (bs : List Span) → ((p : ℕ) → sum_by (in_block p) bs ≡ once p (suc n)) → NoTwoTouch bs → Filled bs → Found 0 bs → bs ≡ whole_of (suc n)
    one_found n bs sum apart filled f =
        let first : f.it.start ≡ 0 = omega (arith, f.has) in
        let last = ends (suc n) bs sum apart filled f in
        let none = none_left f.rest (f.filled filled).1 (λ q. dite (dec_lt q (suc n))
        (λ l. omega (arith, sum q, is_piece q (suc n) l, f.sum q, in_yes q f.it (omega arith) (omega arith)))
        (λ h. omega (arith, sum q, no_piece q (suc n) (omega arith), f.sum q))) in
        f.only none ∙ (λ i. span (first i) (last i) ∷ [])

pub core : Core
core n workers events t runs =
    let k = all_kept n (start n workers) events t (begins n workers) runs in
    record {
      in_one_place = k.one_place;
      apart = k.apart;
      whole = λ drawn hands. one_block n t.stored (λ p. omega (arith, k.one_place p, hands p, ap (times p) drawn)) k.apart k.filled;
    }
