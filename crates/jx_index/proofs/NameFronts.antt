-- Fronts rise with the units of names.
use Rattle.std.proofs.Common.{◌≡◌, ℕ, zero, suc, ◌+◌, ◌-◌, ◌*◌, ◌^◌, ◌<◌, ◌≤◌, List, [], ◌∷◌, length, map, Bool, true, false, cond, refl, sym, ap, subst, ◌∙◌, arith, get_or}
use Rattle.std.specs.Prelude.{filter, nat_lt, ◌==◌, not, ◌&&◌}
use Rattle.std.specs.List.{All}
use Rattle.std.specs.List.Sorted.{IsPermutation, IsNonDecreasing, IsSortedBy, ties}
use Rattle.std.specs.declared.cmp.Ordering.{Ordering}
use Rattle.std.specs.declared.cmp.Ordering.TheVariants.{Less, Equal, Greater}
use Rattle.std.specs.Ordering.{nat_cmp, is_lt, ordering_reverse, ordering_then, MatchOrdering}
use Rattle.std.specs.Cmp.Lexicographic.{slice_cmp, nat_list_cmp_total}
use Rattle.std.proofs.lemmas.Bool.Decides.{nat_tests}
use Rattle.std.proofs.lemmas.Cmp.{ranked}
use Rattle.std.proofs.lemmas.List.{get_or-map, length-map}
use Rattle.std.proofs.lemmas.List.Elements.{All-map, All-tail, filter_agree}
use Rattle.std.proofs.lemmas.List.Sorted.{IsPermutation-map, All-permutation, IsNonDecreasingBy-from_all_adjacent}
use Rattle.jx_index.specs.declared.member_order.Fronted.{Fronted}
use Rattle.jx_index.specs.declared.row.Row.{Row}
use Rattle.jx_index.specs.Names.{IsInNameOrder, is_below, name_units}
use Rattle.jx_index.specs.RowsLead.{is_equal}
use Rattle.jx_index.proofs.NameKeys.{same_units}
use Rattle.jx_index.specs.inside.NameFronts.{behind_digit, digit, front_at, front_from, front_in, front_of, is_in_front, node_of, with_front, IsInFrontOrder}

-- ---- digits

record IsSmall (u : ℕ) (us : List ℕ) : Type 0 where
  low : u < 255
  digit_is : digit (u ∷ us) ≡ u
  behind_is : behind_digit (u ∷ us) ≡ us

record IsGreat (u : ℕ) (us : List ℕ) : Type 0 where
  high : 255 ≤ u
  digit_is : digit (u ∷ us) ≡ 255
  behind_is : behind_digit (u ∷ us) ≡ []

data Size (u : ℕ) (us : List ℕ) : Type 0 where
  small : IsSmall u us → Size u us
  great : IsGreat u us → Size u us

size_of : (u : ℕ) (us : List ℕ) → Size u us
size_of u us = pick (nat_lt u 255) refl
  where
    pick : (b : Bool) → nat_lt u 255 ≡ b → Size u us
    pick true e = small (record { low = grind (arith, nat_tests); digit_is = ap (λ b. cond b u 255) e; behind_is = ap (λ b. cond b us []) e })
    pick false e = great (record { high = grind (arith, nat_tests); digit_is = ap (λ b. cond b u 255) e; behind_is = ap (λ b. cond b us []) e })

pub digit_low : (us : List ℕ) → digit us ≤ 255
digit_low [] = omega arith
digit_low (u ∷ us) = pick (size_of u us)
  where
    pick : Size u us → digit (u ∷ us) ≤ 255
    pick (small s) = let l = s.low in let e = s.digit_is in omega (arith, l, e)
    pick (great g) = let e = g.digit_is in omega (arith, e)

less : (u v : ℕ) (us vs : List ℕ) → u < v → slice_cmp nat_cmp (u ∷ us) (v ∷ vs) ≡ Less
less u v us vs h = let l : nat_lt u v ≡ true = grind (arith, nat_tests) in rw (l) refl

same_head : (u v : ℕ) (us vs : List ℕ) → u ≡ v → slice_cmp nat_cmp us vs ≡ Less → slice_cmp nat_cmp (u ∷ us) (v ∷ vs) ≡ Less
same_head u v us vs h k =
    let l : nat_lt u v ≡ false = grind (arith, nat_tests) in
    let e : (u == v) ≡ true = grind (arith, nat_tests) in
    rw (l, e) k

never : (us : List ℕ) → slice_cmp nat_cmp us [] ≡ Less → ⊥
never [] h = absurd (cc)
never (u ∷ us) h = absurd (cc)

digits_less : (us vs : List ℕ) → digit us < digit vs → slice_cmp nat_cmp us vs ≡ Less
digits_less [] [] h = absurd (omega (arith, h))
digits_less [] (v ∷ vs) h = refl
digits_less (u ∷ us) [] h = absurd (omega (arith, h))
digits_less (u ∷ us) (v ∷ vs) h = pick (size_of u us) (size_of v vs)
  where
    pick : Size u us → Size v vs → slice_cmp nat_cmp (u ∷ us) (v ∷ vs) ≡ Less
    pick (small s) (small t) = let a = s.digit_is in let b = t.digit_is in less u v us vs (omega (arith, a, b, h))
    pick (small s) (great t) = let a = s.low in let b = t.high in less u v us vs (omega (arith, a, b))
    pick (great s) t = let a = s.digit_is in let b = digit_low (v ∷ vs) in absurd (omega (arith, a, b, h))

digits_same : (us vs : List ℕ) → digit us ≡ digit vs → slice_cmp nat_cmp (behind_digit us) (behind_digit vs) ≡ Less → slice_cmp nat_cmp us vs ≡ Less
digits_same [] [] h k = k
digits_same [] (v ∷ vs) h k = refl
digits_same (u ∷ us) [] h k = absurd (never (behind_digit (u ∷ us)) k)
digits_same (u ∷ us) (v ∷ vs) h k = pick (size_of u us) (size_of v vs)
  where
    pick : Size u us → Size v vs → slice_cmp nat_cmp (u ∷ us) (v ∷ vs) ≡ Less
    pick (small s) (small t) =
        let a = s.digit_is in
        let b = t.digit_is in
        same_head u v us vs (omega (arith, a, b, h)) (subst (λ ws. slice_cmp nat_cmp us ws ≡ Less) t.behind_is (subst (λ ws. slice_cmp nat_cmp ws (behind_digit (v ∷ vs)) ≡ Less) s.behind_is k))
    pick (small s) (great t) = let a = s.low in let b = s.digit_is in let c = t.digit_is in absurd (omega (arith, a, b, c, h))
    pick (great s) (small t) = let a = t.low in let b = s.digit_is in let c = t.digit_is in absurd (omega (arith, a, b, c, h))
    pick (great s) (great t) = absurd (never (behind_digit (u ∷ us)) (subst (λ ws. slice_cmp nat_cmp (behind_digit (u ∷ us)) ws ≡ Less) t.behind_is k))

-- ---- fronts

-- the first different digit decides
later : (n a b : ℕ) (us vs : List ℕ) → a < b → front_from a n us < front_from b n vs
unfolding front_from
later zero a b us vs h = h
later (suc n) a b us vs h =
    let l = digit_low us in later n (a * 256 + digit us) (b * 256 + digit vs) (behind_digit us) (behind_digit vs) (omega (arith, h, l))

rises : (n a : ℕ) (us vs : List ℕ) → front_from a n us < front_from a n vs → slice_cmp nat_cmp us vs ≡ Less
unfolding front_from
rises zero a us vs h = absurd (omega (arith, h))
rises (suc n) a us vs h =
    pick (nat_cmp (digit us) (digit vs)) (ranked (digit us) (digit vs) (nat_cmp (digit us) (digit vs)) refl) (λ k. rises n (a * 256 + digit us) (behind_digit us) (behind_digit vs) k)
  where
    pick : (o : Ordering) → MatchOrdering o (digit us < digit vs) (digit us ≡ digit vs) (digit vs < digit us)
        → (front_from (a * 256 + digit us) n (behind_digit us) < front_from (a * 256 + digit us) n (behind_digit vs) → slice_cmp nat_cmp (behind_digit us) (behind_digit vs) ≡ Less)
        → slice_cmp nat_cmp us vs ≡ Less
    pick Less m rest = digits_less us vs m
    pick Equal m rest =
        digits_same us vs m (rest (subst (λ (d : ℕ). front_from (a * 256 + digit us) n (behind_digit us) < front_from (a * 256 + d) n (behind_digit vs)) (sym m) h))
    pick Greater m rest =
        let l = later n (a * 256 + digit vs) (a * 256 + digit us) (behind_digit vs) (behind_digit us) (omega (arith, m)) in absurd (omega (arith, h, l))

-- to compare fronts first decides as to compare units alone
pub same_order : (us vs : List ℕ) → is_lt (slice_cmp nat_cmp (front_of us ∷ us) (front_of vs ∷ vs)) ≡ is_lt (slice_cmp nat_cmp us vs)
same_order us vs = pick (nat_cmp (front_of us) (front_of vs)) (ranked (front_of us) (front_of vs) (nat_cmp (front_of us) (front_of vs)) refl)
  where
    pick : (o : Ordering) → MatchOrdering o (front_of us < front_of vs) (front_of us ≡ front_of vs) (front_of vs < front_of us)
        → is_lt (ordering_then o (slice_cmp nat_cmp us vs)) ≡ is_lt (slice_cmp nat_cmp us vs)
    pick Less m = sym (ap is_lt (rises 8 0 us vs m))
    pick Equal m = refl
    pick Greater m = sym (ap is_lt (nat_list_cmp_total.antisymm us vs ∙ ap ordering_reverse (rises 8 0 vs us m)))

not_above : (us vs : List ℕ) → is_lt (slice_cmp nat_cmp vs us) ≡ false → front_of us ≤ front_of vs
not_above us vs h = pick (nat_cmp (front_of vs) (front_of us)) (ranked (front_of vs) (front_of us) (nat_cmp (front_of vs) (front_of us)) refl)
  where
    pick : (o : Ordering) → MatchOrdering o (front_of vs < front_of us) (front_of vs ≡ front_of us) (front_of us < front_of vs) → front_of us ≤ front_of vs
    pick Less m = let clash : true ≡ false = sym (ap is_lt (rises 8 0 vs us m)) ∙ h in absurd (cc)
    pick Equal m = omega (arith, m)
    pick Greater m = omega (arith, m)

-- one digit more
abbrev pub top : ℕ → ℕ
top zero = 1
top (suc n) = top n * 256

pub top_more : (at : ℕ) → top (at + 1) ≡ top at * 256
top_more at = ap top (let e : at + 1 ≡ suc at = omega arith in e)

one_digit : (front n : ℕ) (us : List ℕ) → front_from front (suc n) us ≡ front_from (front * 256 + digit us) n (behind_digit us)
unfolding front_from
one_digit front n us = refl

pub digit_more : (front at : ℕ) (us : List ℕ) → at < 8 → front_from front (8 - at) us ≡ front_from (front * 256 + digit us) (8 - (at + 1)) (behind_digit us)
digit_more front at us h =
    ap (λ n. front_from front n us) (let e : 8 - at ≡ suc (8 - (at + 1)) = omega (arith, h) in e) ∙ one_digit front (8 - (at + 1)) us

no_digit : (front : ℕ) (us : List ℕ) → front_from front 0 us ≡ front
unfolding front_from
no_digit front us = refl

pub digits_done : (front at : ℕ) (us : List ℕ) → 8 ≤ at → front_from front (8 - at) us ≡ front
digits_done front at us h = ap (λ n. front_from front n us) (let e : 8 - at ≡ 0 = omega (arith, h) in e) ∙ no_digit front us

pub low_more : (front at digit : ℕ) → front < top at → digit ≤ 255 → front * 256 + digit < top (at + 1)
low_more front at digit h l = let e = top_more at in omega (arith, h, l, e)

pub has_room : (at front digit : ℕ) → at < 8 → front < top at → digit ≤ 255 → front * 256 + digit < 2 ^ 64
has_room zero front digit h low l = omega (arith, low, l)
has_room (suc zero) front digit h low l = omega (arith, low, l)
has_room (suc (suc zero)) front digit h low l = omega (arith, low, l)
has_room (suc (suc (suc zero))) front digit h low l = omega (arith, low, l)
has_room (suc (suc (suc (suc zero)))) front digit h low l = omega (arith, low, l)
has_room (suc (suc (suc (suc (suc zero))))) front digit h low l = omega (arith, low, l)
has_room (suc (suc (suc (suc (suc (suc zero)))))) front digit h low l = omega (arith, low, l)
has_room (suc (suc (suc (suc (suc (suc (suc zero))))))) front digit h low l = omega (arith, low, l)
has_room (suc (suc (suc (suc (suc (suc (suc (suc n)))))))) front digit h low l = absurd (omega (arith, h))

-- ---- members in order

filter_map : {A B : Type 0} (p : B → Bool) (f : A → B) (xs : List A) → filter p (map f xs) ≡ map f (filter (λ x. p (f x)) xs)
filter_map p f [] = refl
filter_map p f (x ∷ xs) = pick (p (f x)) (filter_map p f xs)
  where
    pick : (b : Bool) → filter p (map f xs) ≡ map f (filter (λ x. p (f x)) xs)
        → cond b (f x ∷ filter p (map f xs)) (filter p (map f xs)) ≡ map f (cond b (x ∷ filter (λ x. p (f x)) xs) (filter (λ x. p (f x)) xs))
    pick true h = ap (λ l. f x ∷ l) h
    pick false h = h

module _ (text : List ℕ) (rows : List Row) where
  abbrev front : ℕ → Fronted
  front = with_front text rows

  members_of : (xs : List ℕ) → map node_of (map front xs) ≡ xs
  members_of [] = refl
  members_of (x ∷ xs) = ap (λ l. x ∷ l) (members_of xs)

  all_fronted : (ms : List Fronted) → All (λ m. m ≡ front (node_of m)) ms → ms ≡ map front (map node_of ms)
  all_fronted [] h = refl
  all_fronted (m ∷ ms) h =
      ap (λ n. n ∷ ms) (h 0 m (omega arith)) ∙ ap (λ l. front (node_of m) ∷ l) (all_fronted ms (All-tail (λ m. m ≡ front (node_of m)) m ms h))

  below : (a b : ℕ) → is_in_front text rows (front a) (front b) ≡ is_below text rows a b
  below a b = same_order (name_units text rows a) (name_units text rows b)

  tied : (y x : ℕ) → ties (is_in_front text rows) (front y) (front x) ≡ ties (is_below text rows) y x
  tied y x = ap (λ b. not b && not (is_in_front text rows (front x) (front y))) (below y x) ∙ ap (λ b. not (is_below text rows y x) && not b) (below x y)

  kept : (y : ℕ) (xs : List ℕ) → map node_of (filter (ties (is_in_front text rows) (front y)) (map front xs)) ≡ filter (ties (is_below text rows) y) xs
  kept y xs =
      ap (map node_of) (filter_map (ties (is_in_front text rows) (front y)) front xs)
      ∙ members_of (filter (λ x. ties (is_in_front text rows) (front y) (front x)) xs)
      ∙ filter_agree (λ x. ties (is_in_front text rows) (front y) (front x)) (ties (is_below text rows) y) (tied y) xs

  -- fronts of members by rising names rise
  pub fronts_rise : (names : List ℕ) → IsSortedBy (is_below text rows) names → IsNonDecreasing (map (front_at text rows) names)
  fronts_rise names h =
      let f = front_at text rows in
      let long = length-map names f in
      IsNonDecreasingBy-from_all_adjacent (λ (x : ℕ). x) (map f names) (λ k d low.
      let a : get_or (map f names) k d ≡ f (get_or names k 0) = get_or-map f names k 0 d (omega (arith, low, long)) in
      let b : get_or (map f names) (k + 1) d ≡ f (get_or names (k + 1) 0) = get_or-map f names (k + 1) 0 d (omega (arith, low, long)) in
      let r = not_above (name_units text rows (get_or names k 0)) (name_units text rows (get_or names (k + 1) 0)) (h k 0 (omega arith) (omega (arith, low, long))) in
      omega (arith, a, b, r))

  -- a member with another front has another name
  pub other_front : (names units : List ℕ) (k : ℕ) → k < length names → (get_or (map (front_at text rows) names) k 0 ≡ front_of units → ⊥)
      → is_equal text rows units (get_or names k 0) ≡ false
  other_front names units k low other = pick (is_equal text rows units (get_or names k 0)) refl
    where
      pick : (b : Bool) → is_equal text rows units (get_or names k 0) ≡ b → b ≡ false
      pick false e = refl
      pick true e =
          absurd (other (get_or-map (front_at text rows) names k 0 0 low ∙ ap front_of (same_units (name_units text rows (get_or names k 0)) units e)))

  sorted_is : (members : List ℕ) (listed sorted : List Fronted) (names : List ℕ) → listed ≡ map front members → IsInFrontOrder text rows listed sorted → names ≡ map node_of sorted
      → sorted ≡ map front names
  sorted_is members listed sorted names listed_is h names_are =
      let right = λ (m : Fronted). m ≡ front (node_of m) in
      all_fronted sorted (All-permutation right listed sorted h.each_once (subst (All right) (sym listed_is) (All-map right front members (λ k d l. refl))))
      ∙ ap (map front) (sym names_are)

  pub in_name_order : (members : List ℕ) (listed sorted : List Fronted) (names : List ℕ) → listed ≡ map front members → IsInFrontOrder text rows listed sorted → names ≡ map node_of sorted
      → IsInNameOrder text rows members names
  in_name_order members listed sorted names listed_is h names_are =
      let o : IsInFrontOrder text rows (map front members) sorted = subst (λ ms. IsInFrontOrder text rows ms sorted) listed_is h in
      let is = sorted_is members listed sorted names listed_is h names_are in
      record {
        each_once = subst (λ xs. IsPermutation xs names) (members_of members)
            (subst (λ xs. IsPermutation (map node_of (map front members)) xs) (sym names_are) (IsPermutation-map node_of (map front members) sorted o.each_once));
        rising = λ k d low high.
            let long : length (map front names) ≡ length names = length-map names front in
            let r = subst (λ ms. IsSortedBy (is_in_front text rows) ms) is o.rising k (front d) low (omega (arith, high, long)) in
            sym (below (get_or names (k + 1) d) (get_or names k d))
            ∙ ap (λ m. is_in_front text rows m (front (get_or names k d))) (sym (get_or-map front names (k + 1) d (front d) (omega (arith, high))))
            ∙ ap (λ m. is_in_front text rows (get_or (map front names) (k + 1) (front d)) m) (sym (get_or-map front names k d (front d) (omega (arith, high))))
            ∙ r;
        equal_by_place = λ y.
            sym (kept y names)
            ∙ ap (λ ms. map node_of (filter (ties (is_in_front text rows) (front y)) ms)) (sym is)
            ∙ ap (map node_of) (o.equal_by_place (front y))
            ∙ kept y members;
      }

  -- the fronts of the members so listed
  fronts_of_members : (xs : List ℕ) → map front_in (map front xs) ≡ map (front_at text rows) xs
  fronts_of_members [] = refl
  fronts_of_members (x ∷ xs) = ap (λ l. front_at text rows x ∷ l) (fronts_of_members xs)

  pub fronts_in_order : (members : List ℕ) (listed sorted : List Fronted) (names fronts : List ℕ) → listed ≡ map front members → IsInFrontOrder text rows listed sorted → names ≡ map node_of sorted
      → fronts ≡ map front_in sorted → fronts ≡ map (front_at text rows) names
  fronts_in_order members listed sorted names fronts listed_is h names_are fronts_are =
      fronts_are ∙ ap (map front_in) (sorted_is members listed sorted names listed_is h names_are) ∙ fronts_of_members names
