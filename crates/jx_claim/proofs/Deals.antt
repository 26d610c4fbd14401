-- Each step of the claims keeps their rule.
use Rattle.std.proofs.Common.{◌≡◌, ◌≢◌, Bool, true, ℕ, zero, suc, ◌+◌, ◌-◌, ◌%◌, ◌^◌, ◌<◌, ◌≤◌, min, cond, List, [], ◌∷◌, ◌++◌, get_or, set, sym, refl, ap, ◌∙◌, subst, ⊎_elim, inl, inr, arith, length, length-append, length-set, get_or-set_same}
use Rattle.std.specs.Prelude.{sum_by, nat_eq, slice_index, All}
use Rattle.std.specs.List.{range_with_len}
use mathlib.Core.Option.{none, some, some-injective, some-ne-none}
use mathlib.Core.Logic.{dite}
use native.Mathlib.Decide.{dec_lt}
use lib.ListN.{get_elem?}
use Rattle.std.proofs.lemmas.List.Sums.{sum_by-cons, sum_by-append, sum_by_push}
use Rattle.std.proofs.lemmas.Bool.Decides.{nat_tests}
use Rattle.std.proofs.lemmas.List.FromFn.{length-range_with_len}
use Rattle.atomic_table.specs.Table.{State, Me, step, keeps, Allows, Splits, Joins, opening, Seen}
use Rattle.atomic_table.proofs.Lists.{at_set, at_snoc, set_else}
use Rattle.jx_claim.specs.declared.rule.View.{View}
use Rattle.jx_claim.specs.declared.rule.Terms.{Terms}
use Rattle.jx_claim.specs.Claimed.{times, once_below}
use Rattle.jx_claim.specs.inside.Dealt.{view, both, Fits, Dealt, IsDraw, DrawsFrom}
use Rattle.jx_claim.specs.Undrawn.{undrawn, Draws}

abbrev St : Type 0
St = State (Unit {0}) View

sum_set : (f : View → ℕ) (l : List View) (i : ℕ) (v w : View) → get_elem? l i ≡ some v → sum_by f (set l i w) + f v ≡ sum_by f l + f w
sum_set f [] i v w e = absurd (some-ne-none v (sym e))
sum_set f (x ∷ xs) zero v w e = omega (arith, sum_by-cons f x xs, sum_by-cons f w xs, ap f (some-injective x v e))
sum_set f (x ∷ xs) (suc i) v w e = omega (arith, sum_by-cons f x xs, sum_by-cons f x (set xs i w), sum_set f xs i v w e)

-- a view counts in the sum
at_most_sum : (f : View → ℕ) (l : List View) (i : ℕ) (v : View) → get_elem? l i ≡ some v → f v ≤ sum_by f l
at_most_sum f [] i v e = absurd (some-ne-none v (sym e))
at_most_sum f (x ∷ xs) zero v e = omega (arith, sum_by-cons f x xs, ap f (some-injective x v e))
at_most_sum f (x ∷ xs) (suc i) v e = omega (arith, sum_by-cons f x xs, at_most_sum f xs i v e)

-- no more got `None` than there are seats
nones_at_most : (l : List View) → ((i : ℕ) (v : View) → get_elem? l i ≡ some v → Fits v) → sum_by (λ (v : View). v.nones) l ≤ sum_by (λ (v : View). v.seats) l
nones_at_most [] h = omega arith
nones_at_most (x ∷ xs) h = omega (arith, sum_by-cons (λ (v : View). v.nones) x xs, sum_by-cons (λ (v : View). v.seats) x xs, (h 0 x refl).nones, nones_at_most xs (λ i v e. h (suc i) v e))

times_push : (x n : ℕ) (xs : List ℕ) → times x (xs ++ n ∷ []) ≡ times x xs + cond (nat_eq n x) 1 0
times_push x n xs = sum_by_push (λ y. cond (nat_eq y x) 1 0) xs n

pub times_append : (x : ℕ) (xs ys : List ℕ) → times x (xs ++ ys) ≡ times x xs + times x ys
times_append x xs ys = sum_by-append (λ y. cond (nat_eq y x) 1 0) xs ys

once_more : (x n : ℕ) → once_below x (suc n) ≡ once_below x n + cond (nat_eq n x) 1 0
once_more x n = grind (arith, nat_tests)

-- numbers from a on, counted
range_times : (x a n : ℕ) → times x (range_with_len a n) + once_below x a ≡ once_below x (a + n)
range_times x a zero = let e : a + 0 ≡ a = omega arith in omega (arith, ap (once_below x) e)
range_times x a (suc n) =
    let e : a + 1 ≡ suc a = omega arith in
    let m : a + 1 + n ≡ a + suc n = omega arith in
    omega (
      arith,
      sum_by-cons (λ y. cond (nat_eq y x) 1 0) a (range_with_len (a + 1) n),
      range_times x (a + 1) n,
      once_more x a,
      ap (once_below x) e,
      ap (once_below x) m,
    )

-- a piece is below the word or undrawn
pub undrawn_or_below : (x word pieces : ℕ) → times x (undrawn word pieces) + once_below x (min word pieces) ≡ once_below x pieces
undrawn_or_below x word pieces = dite (dec_lt word pieces)
    (λ low.
    let a : min word pieces ≡ word = omega arith in
    let b : word + (pieces - word) ≡ pieces = omega arith in
    omega (arith, range_times x word (pieces - word), ap (once_below x) a, ap (once_below x) b))
    (λ past.
    let a : min word pieces ≡ pieces = omega arith in
    let b : pieces - word ≡ 0 = omega arith in
    omega (arith, ap (once_below x) a, ap (λ n. times x (range_with_len word n)) b))

first_undrawn : (word pieces : ℕ) → word < pieces → undrawn word pieces ≡ word ∷ undrawn (word + 1) pieces
first_undrawn word pieces low = let e : pieces - word ≡ suc (pieces - (word + 1)) = omega arith in ap (range_with_len word) e

-- the first undrawn piece is drawn
pub first_drawn : (word pieces : ℕ) → word < pieces → Draws (undrawn word pieces) word (undrawn (word + 1) pieces)
first_drawn word pieces low = ([], undrawn (word + 1) pieces, refl, first_undrawn word pieces low)

pub none_undrawn : (word pieces : ℕ) → pieces ≤ word → undrawn word pieces ≡ []
none_undrawn word pieces past = let e : pieces - word ≡ 0 = omega arith in ap (range_with_len word) e

-- a word that is a piece goes to the seat
pub got_piece : (pieces word : ℕ) (v w : View) → word < pieces → IsDraw pieces word v w → w ≡ view v.seats (v.got ++ word ∷ []) v.nones
got_piece pieces word v w low (inl h) = h.1
got_piece pieces word v w low (inr h) = absurd (omega (arith, ap (λ l. length l) h.0, length-range_with_len word (pieces - word)))

-- any other word is `None`
pub got_none : (pieces word : ℕ) (v w : View) → pieces ≤ word → IsDraw pieces word v w → w ≡ view v.seats v.got (v.nones + 1)
got_none pieces word v w past (inl h) = absurd (omega (arith, ap (λ l. length l) (none_undrawn word pieces past), ap (λ l. length l) h.0.3, length-append h.0.0 (word ∷ h.0.1)))
got_none pieces word v w past (inr h) = h.1

-- the pieces below the word were got once each
below_got : (k : Terms) (s : St) → Dealt k s → (x : ℕ) → sum_by (λ (v : View). times x v.got) s.views ≡ once_below x (min (slice_index s.words 0) k.pieces)
below_got k s h x = omega (arith, h.got x, undrawn_or_below x (slice_index s.words 0) k.pieces)

abbrev pub bit : Bool → ℕ
bit b = cond b 1 0

-- what stands in a list stands there once at least
times_at : (xs : List ℕ) (i d : ℕ) → i < length xs → 0 < times (get_or xs i d) xs
times_at [] i d low = absurd (omega arith)
times_at (x ∷ xs) zero d low = let e : nat_eq x x ≡ true = grind (arith, nat_tests) in omega (arith, sum_by-cons (λ y. cond (nat_eq y x) 1 0) x xs, ap bit e)
times_at (x ∷ xs) (suc i) d low =
    let y = get_or xs i d in
    omega (arith, sum_by-cons (λ z. cond (nat_eq z y) 1 0) x xs, times_at xs i d (omega arith))

some_below : (x n : ℕ) → 0 < once_below x n → x < n
some_below x n one = grind (arith, nat_tests)

-- all that a view got is below the word
got_below : (k : Terms) (s : St) (id : ℕ) (v : View) → Dealt k s → get_elem? s.views id ≡ some v → All (λ n. n < slice_index s.words 0) v.got
got_below k s id v h at i d low =
    let x = get_or v.got i d in
    let word = min (slice_index s.words 0) k.pieces in
    let below : x < word = some_below x word (omega (arith, times_at v.got i d low, at_most_sum (λ u. times x u.got) s.views id v at, below_got k s h x)) in
    omega (arith, below)

fits_set : (views : List View) (id : ℕ) (w : View) → ((j : ℕ) (u : View) → get_elem? views j ≡ some u → Fits u) → Fits w → (j : ℕ) (u : View) → get_elem? (set views id w) j ≡ some u → Fits u
fits_set views id w others mine j u e =
    ⊎_elim (λ (x : (j ≡ id) × (w ≡ u)). subst Fits x.1 mine) (λ (x : (j ≢ id) × (get_elem? views j ≡ some u)). others j u x.1) (at_set views id j w u e)

none_below : (x n : ℕ) → n ≡ 0 → once_below x n ≡ 0
none_below x n e = grind (arith, nat_tests)

pub begins : (k : Terms) → k.workers ≤ 64 → k.pieces < 4294967296 → Dealt k (opening (0 ∷ []) [] (view k.workers [] 0))
begins k few small = record {
  one_word = refl;
  few = few;
  small = small;
  within = omega arith;
  seats = omega arith;
  got = λ x. omega (arith, undrawn_or_below x 0 k.pieces, none_below x (min 0 k.pieces) (omega arith));
  nones = omega arith;
  fits = one;
}
  where
    one : (id : ℕ) (v : View) → get_elem? (view k.workers [] 0 ∷ []) id ≡ some v → Fits v
    one zero v e = subst Fits (some-injective _ _ e) (record { nones = omega arith; idle = λ _. refl })
    one (suc id) v e = absurd (some-ne-none v (sym e))

-- the rule holds after a step of the seat id that leaves the word at m and the view w
moved : (k : Terms) (s : St) (h : Dealt k s) (id : ℕ) (v w : View) (m : ℕ) → get_elem? s.views id ≡ some v
    → w.seats ≡ v.seats → Fits w
    → ((x : ℕ) → times x w.got + times x (undrawn m k.pieces) ≡ times x v.got + times x (undrawn (slice_index s.words 0) k.pieces))
    → w.nones + (slice_index s.words 0 - k.pieces) ≡ v.nones + (m - k.pieces)
    → Dealt k record { words = set s.words 0 m; homes = s.homes; views = set s.views id w }
moved k s h id v w m at same fits got nones =
    let here : get_or (set s.words 0 m) 0 0 ≡ m = get_or-set_same s.words 0 m 0 (omega (arith, h.one_word)) in
    let all_fit = fits_set s.views id w h.fits fits in
    let seats : sum_by (λ (u : View). u.seats) (set s.views id w) ≡ k.workers = omega (arith, h.seats, sum_set (λ u. u.seats) s.views id v w at) in
    let past : sum_by (λ (u : View). u.nones) (set s.views id w) ≡ m - k.pieces = omega (arith, h.nones, nones, sum_set (λ u. u.nones) s.views id v w at) in
    let few_past : m ≤ k.pieces + 64 = omega (arith, h.few, nones_at_most (set s.views id w) all_fit) in
    record {
      one_word = length-set s.words 0 m ∙ h.one_word;
      few = h.few;
      small = h.small;
      within = subst (λ y. y ≤ k.pieces + 64) (sym here) few_past;
      seats = seats;
      got = λ x. omega (arith, h.got x, got x, sum_set (λ u. times x u.got) s.views id v w at, ap (λ y. times x (undrawn y k.pieces)) here);
      nones = past ∙ sym (ap (λ y. y - k.pieces) here);
      fits = all_fit;
    }

pub draws : (k : Terms) (slots id : ℕ) (me : Me (Unit {0}) View) → me.0.seats ≡ 1 → me.0.nones ≡ 0
    → Allows (Dealt k) slots id me 0 (λ n. (n + 1) % 2 ^ 64) (DrawsFrom k.pieces (step slots 0 1 0 none) me)
draws k slots id me one unspent s h _ at fits =
    let n : ℕ = slice_index s.words 0 in
    let next : (n + 1) % 2 ^ 64 ≡ n + 1 = omega (arith, h.within, h.small) in
    let P : ℕ → View → Type 0 = λ m w. Dealt k record { words = set s.words 0 m; homes = s.homes; views = set s.views id w } in
    dite (dec_lt n k.pieces)
    (λ low.
    let w = view me.0.seats (me.0.got ++ n ∷ []) me.0.nones in (
      w,
      keeps,
      tt,
      subst (λ m. P m w) (sym next) (moved k s h id me.0 w (n + 1) at refl (record { nones = (h.fits id me.0 at).nones; idle = λ e. absurd (omega arith) })
          (λ x. omega (arith, times_push x n me.0.got, ap (times x) (first_undrawn n k.pieces low), sum_by-cons (λ y. cond (nat_eq y x) 1 0) n (undrawn (n + 1) k.pieces)))
          (omega arith)),
      (got_below k s id me.0 h at, inl (first_drawn n k.pieces low, refl), refl),
    ))
    (λ past.
    let w = view me.0.seats me.0.got (me.0.nones + 1) in
    let none = none_undrawn n k.pieces (omega arith) in (
      w,
      keeps,
      tt,
      subst (λ m. P m w) (sym next) (moved k s h id me.0 w (n + 1) at refl (record { nones = omega arith; idle = λ e. absurd (omega arith) })
          (λ x. omega (arith, ap (times x) none, ap (times x) (none_undrawn (n + 1) k.pieces (omega arith))))
          (omega arith)),
      (got_below k s id me.0 h at, inr (none, refl), refl),
    ))

pub cuts : (k : Terms) (id : ℕ) (v : View) → 0 < v.seats → v.got ≡ [] → v.nones ≡ 0 → Splits (Dealt k) id v (view (v.seats - 1) v.got v.nones) (view 1 [] 0)
cuts k id v some_seat none_got none_none s h at =
    let l = view (v.seats - 1) v.got v.nones in
    let r = view 1 [] 0 in
    record {
      one_word = h.one_word;
      few = h.few;
      small = h.small;
      within = h.within;
      seats = sum_by_push (λ (u : View). u.seats) (set s.views id l) r ∙ omega (arith, h.seats, sum_set (λ u. u.seats) s.views id v l at);
      got = λ x. omega (arith, sum_by_push (λ (u : View). times x u.got) (set s.views id l) r, h.got x, sum_set (λ u. times x u.got) s.views id v l at);
      nones = sum_by_push (λ (u : View). u.nones) (set s.views id l) r ∙ omega (arith, h.nones, sum_set (λ u. u.nones) s.views id v l at);
      fits = λ j u e. ⊎_elim
          (λ was. fits_set s.views id l h.fits (record { nones = omega arith; idle = λ _. none_got }) j u was)
          (λ (same : r ≡ u). subst Fits same (record { nones = omega arith; idle = λ _. refl }))
          (at_snoc (set s.views id l) r u j e);
    }

pub joins : (k : Terms) (id : ℕ) (v : View) (other : ℕ) (w : View) → Joins (Dealt k) id v other w (both v w) (view 0 [] 0)
joins k id v other w s h at apart there =
    let b = both v w in
    let z = view 0 [] 0 in
    let first = set s.views id b in
    let was : get_elem? s.views other ≡ some w = sym (set_else s.views id other b apart) ∙ there in
    let a = (h.fits id v at) in
    let o = (h.fits other w was) in
    record {
      one_word = h.one_word;
      few = h.few;
      small = h.small;
      within = h.within;
      seats = omega (arith, h.seats, sum_set (λ u. u.seats) s.views id v b at, sum_set (λ u. u.seats) first other w z there);
      got = λ x. omega (arith, h.got x, times_append x v.got w.got, sum_set (λ u. times x u.got) s.views id v b at, sum_set (λ u. times x u.got) first other w z there);
      nones = omega (arith, h.nones, sum_set (λ u. u.nones) s.views id v b at, sum_set (λ u. u.nones) first other w z there);
      fits = fits_set first other z
          (fits_set s.views id b h.fits (record { nones = omega (arith, a.nones, o.nones); idle = λ e. ap (λ l. l ++ w.got) (a.idle (omega arith)) ∙ o.idle (omega arith) }))
          (record { nones = omega arith; idle = λ _. refl });
    }

-- the view that stands for all seats
pub learns : (k : Terms) (id : ℕ) (v : View) (s : St) → v.seats ≡ k.workers → Seen (Dealt k) id v s
    → ((x : ℕ) → times x v.got ≡ once_below x (min (slice_index s.words 0) k.pieces)) × (v.nones ≡ slice_index s.words 0 - k.pieces)
learns k id v s whole h =
    let z = view 0 [] 0 in
    let a = h.0.seats in
    let rest : sum_by (λ (u : View). u.seats) (set s.views id z) ≡ 0 = omega (arith, a, sum_set (λ u. u.seats) s.views id v z h.1) in
    let fits = fits_set s.views id z h.0.fits (record { nones = omega arith; idle = λ _. refl }) in (
      (λ x. omega (arith, below_got k s h.0 x, no_got x (set s.views id z) rest fits, sum_set (λ u. times x u.got) s.views id v z h.1)),
      omega (arith, h.0.nones, nones_at_most (set s.views id z) fits, sum_set (λ u. u.nones) s.views id v z h.1),
    )
  where
    no_got : (x : ℕ) (l : List View) → sum_by (λ (u : View). u.seats) l ≡ 0 → ((i : ℕ) (u : View) → get_elem? l i ≡ some u → Fits u) → sum_by (λ (u : View). times x u.got) l ≡ 0
    no_got x [] e f = refl
    no_got x (u ∷ us) e f =
        let c = sum_by-cons (λ (y : View). y.seats) u us in
        let mine : times x u.got ≡ 0 = ap (times x) ((f 0 u refl).idle (omega arith)) in
        omega (arith, sum_by-cons (λ (y : View). times x y.got) u us, mine, no_got x us (omega arith) (λ i v e'. f (suc i) v e'))
