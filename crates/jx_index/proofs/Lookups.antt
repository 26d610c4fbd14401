-- Which edge of a trie a halving finds.
use Rattle.std.proofs.Common.{◌≡◌, ℕ, zero, suc, ◌+◌, ◌-◌, ◌^◌, ◌<◌, ◌≤◌, List, [], ◌∷◌, length, Bool, true, false, cond, Option, None, Some, refl, sym, ap, subst, ◌∙◌, arith, get_or}
use Rattle.std.specs.Prelude.{◌==◌, ◌&&◌, nat_lt, slice_get, if◌then◌else◌}
use Rattle.std.specs.declared.cmp.Ordering.{Ordering}
use Rattle.std.specs.declared.cmp.Ordering.TheVariants.{Less, Equal, Greater}
use Rattle.std.specs.List.Sorted.{IsPartitionedBy, IsPartitionPoint}
use Rattle.std.specs.Ordering.{nat_cmp, is_lt, is_eq, is_gt, ordering_reverse, ordering_then, MatchOrdering}
use Rattle.std.specs.Cmp.Lexicographic.{slice_cmp, nat_list_cmp_total}
use Rattle.std.proofs.lemmas.Bool.Decides.{nat_tests}
use Rattle.std.proofs.lemmas.Cmp.{nat_cmp_total, ranked, tied_itself}
use Rattle.std.proofs.lemmas.Bool.{false_from_ne_true}
use Rattle.jx_index.specs.ArrayTokens.{is_dash, is_index, value_after}
use Rattle.jx_index.specs.declared.array_token.Place.{Place}
use Rattle.jx_index.specs.declared.array_token.Place.TheVariants as place
use Rattle.jx_index.specs.declared.trie.Edge.{Edge}
use Rattle.jx_index.specs.inside.Finding.{is_place}
use Rattle.jx_index.specs.inside.Trie.{child_at, edge_key, edge_units, element_at, follows, leads_to_place, leads_to_units, place_at, place_from, place_number, place_of, stands_before, IsFirstFrom, IsNextFrom, IsTrie}
use Rattle.jx_index.proofs.NameKeys.{same_units}
use Rattle.jx_index.proofs.Reaches.{dash_no_index, place_of_dash, place_of_none, place_of_index}
use Rattle.jx_index.proofs.Tests.{first_true, less_of, same, second_true}
use Rattle.jx_index.proofs.Ways.{first_hit, first_none}

-- ---- elements

pub got : (edges : List Edge) (i : ℕ) (d : Edge) → i < length edges → slice_get edges i ≡ Some (get_or edges i d)
got [] i d h = absurd (omega (arith, h))
got (e ∷ edges) zero d h = refl
got (e ∷ edges) (suc i) d h = got edges i d (omega (arith, h))

pub is_got : (edges : List Edge) (i : ℕ) (d e : Edge) → slice_get edges i ≡ Some e → get_or edges i d ≡ e
is_got [] i d e h = absurd (cc)
is_got (x ∷ edges) zero d e h = let s : x ≡ e = cc in s
is_got (x ∷ edges) (suc i) d e h = is_got edges i d e h

pub there : (edges : List Edge) (i : ℕ) (e : Edge) → slice_get edges i ≡ Some e → i < length edges
there [] i e h = absurd (cc)
there (x ∷ edges) zero e h = omega arith
there (x ∷ edges) (suc i) e h = let l = there edges i e h in omega (arith, l)

pub record Here (edges : List Edge) (i : ℕ) : Type 0 where
  pub edge : Edge
  pub is : slice_get edges i ≡ Some edge

pub here_at : (edges : List Edge) (i : ℕ) → i < length edges → Here edges i
here_at [] i h = absurd (omega (arith, h))
here_at (e ∷ edges) zero h = record { edge = e; is = refl }
here_at (e ∷ edges) (suc i) h = let x = here_at edges i (omega (arith, h)) in record { edge = x.edge; is = x.is }

-- ---- orders

below_on : (j k l : List ℕ) → is_lt (slice_cmp nat_cmp j k) ≡ true → is_lt (slice_cmp nat_cmp k l) ≡ true → is_lt (slice_cmp nat_cmp j l) ≡ true
below_on j k l h g = ap is_lt (nat_list_cmp_total.trans j k l (less_of (slice_cmp nat_cmp j k) h) (less_of (slice_cmp nat_cmp k l) g))

not_below : (k : List ℕ) → is_lt (slice_cmp nat_cmp k k) ≡ false
not_below k = ap is_lt (tied_itself nat_list_cmp_total k)

-- what the two numbers at the front say
record Low (x y n p : ℕ) : Type 0 where
  parent : x ≤ n
  place : x ≡ n → y ≤ p

record Lower (x y n p : ℕ) : Type 0 where
  parent : x ≤ n
  place : x ≡ n → y < p

low_parts : (x y n p : ℕ) (us vs : List ℕ) → is_lt (slice_cmp nat_cmp (x ∷ y ∷ us) (n ∷ p ∷ vs)) ≡ true → Low x y n p
low_parts x y n p us vs h = first (nat_cmp x n) (ranked x n (nat_cmp x n) refl) h
  where
    second : x ≡ n → (o : Ordering) → MatchOrdering o (y < p) (y ≡ p) (p < y) → is_lt (ordering_then o (slice_cmp nat_cmp us vs)) ≡ true → Low x y n p
    second e Less m k = record { parent = omega (arith, e); place = λ q. omega (arith, m) }
    second e Equal m k = record { parent = omega (arith, e); place = λ q. omega (arith, m) }
    second e Greater m k = absurd (cc)

    first : (o : Ordering) → MatchOrdering o (x < n) (x ≡ n) (n < x) → is_lt (ordering_then o (ordering_then (nat_cmp y p) (slice_cmp nat_cmp us vs))) ≡ true → Low x y n p
    first Less m k = record { parent = omega (arith, m); place = λ q. absurd (omega (arith, m, q)) }
    first Equal m k = second m (nat_cmp y p) (ranked y p (nat_cmp y p) refl) k
    first Greater m k = absurd (cc)

lower_parts : (x y n p : ℕ) (us : List ℕ) → is_lt (slice_cmp nat_cmp (x ∷ y ∷ us) (n ∷ p ∷ [])) ≡ true → Lower x y n p
lower_parts x y n p us h = first (nat_cmp x n) (ranked x n (nat_cmp x n) refl) h
  where
    never : (us : List ℕ) → is_lt (slice_cmp nat_cmp us []) ≡ true → ⊥
    never [] k = absurd (cc)
    never (u ∷ us) k = absurd (cc)

    second : x ≡ n → (o : Ordering) → MatchOrdering o (y < p) (y ≡ p) (p < y) → is_lt (ordering_then o (slice_cmp nat_cmp us [])) ≡ true → Lower x y n p
    second e Less m k = record { parent = omega (arith, e); place = λ q. m }
    second e Equal m k = absurd (never us k)
    second e Greater m k = absurd (cc)

    first : (o : Ordering) → MatchOrdering o (x < n) (x ≡ n) (n < x) → is_lt (ordering_then o (ordering_then (nat_cmp y p) (slice_cmp nat_cmp us []))) ≡ true → Lower x y n p
    first Less m k = record { parent = omega (arith, m); place = λ q. absurd (omega (arith, m, q)) }
    first Equal m k = second m (nat_cmp y p) (ranked y p (nat_cmp y p) refl) k
    first Greater m k = absurd (cc)

high_parts : (x y n p : ℕ) (us : List ℕ) → is_lt (slice_cmp nat_cmp (x ∷ y ∷ us) (n ∷ p ∷ [])) ≡ false → Low n p x y
high_parts x y n p us h = first (nat_cmp x n) (ranked x n (nat_cmp x n) refl) h
  where
    second : x ≡ n → (o : Ordering) → MatchOrdering o (y < p) (y ≡ p) (p < y) → is_lt (ordering_then o (slice_cmp nat_cmp us [])) ≡ false → Low n p x y
    second e Less m k = absurd (cc)
    second e Equal m k = record { parent = omega (arith, e); place = λ q. omega (arith, m) }
    second e Greater m k = record { parent = omega (arith, e); place = λ q. omega (arith, m) }

    first : (o : Ordering) → MatchOrdering o (x < n) (x ≡ n) (n < x) → is_lt (ordering_then o (ordering_then (nat_cmp y p) (slice_cmp nat_cmp us []))) ≡ false → Low n p x y
    first Less m k = absurd (cc)
    first Equal m k = second m (nat_cmp y p) (ranked y p (nat_cmp y p) refl) k
    first Greater m k = record { parent = omega (arith, m); place = λ q. absurd (omega (arith, m, q)) }

-- ---- whether an edge stands before a key

pub before_parent : (x y n p : ℕ) (us vs : List ℕ) (b : Bool) → b ≡ nat_lt x n → (x ≡ n → ⊥) → b ≡ is_lt (slice_cmp nat_cmp (x ∷ y ∷ us) (n ∷ p ∷ vs))
before_parent x y n p us vs b e o = e ∙ pick (nat_cmp x n) (ranked x n (nat_cmp x n) refl)
  where
    pick : (r : Ordering) → MatchOrdering r (x < n) (x ≡ n) (n < x) → nat_lt x n ≡ is_lt (ordering_then r (ordering_then (nat_cmp y p) (slice_cmp nat_cmp us vs)))
    pick Less m = grind (arith, nat_tests)
    pick Equal m = absurd (o m)
    pick Greater m = grind (arith, nat_tests)

pub before_units : (x y n p : ℕ) (us vs : List ℕ) → x ≡ n → y ≡ p → is_lt (slice_cmp nat_cmp (x ∷ y ∷ us) (n ∷ p ∷ vs)) ≡ is_lt (slice_cmp nat_cmp us vs)
before_units x y n p us vs q e =
    ap (λ (r : Ordering). is_lt (ordering_then r (ordering_then (nat_cmp y p) (slice_cmp nat_cmp us vs)))) (ap (λ (m : ℕ). nat_cmp m n) q ∙ tied_itself nat_cmp_total n)
    ∙ ap (λ (r : Ordering). is_lt (ordering_then r (slice_cmp nat_cmp us vs))) (ap (λ (m : ℕ). nat_cmp m p) e ∙ tied_itself nat_cmp_total p)

none_before : (us : List ℕ) → is_lt (slice_cmp nat_cmp us []) ≡ false
none_before [] = refl
none_before (u ∷ us) = refl

pub before_none : (x y n p : ℕ) (us vs : List ℕ) → x ≡ n → y ≡ p → vs ≡ [] → false ≡ is_lt (slice_cmp nat_cmp (x ∷ y ∷ us) (n ∷ p ∷ vs))
before_none x y n p us vs q e none =
    sym (before_units x y n p us vs q e ∙ ap (λ (ws : List ℕ). is_lt (slice_cmp nat_cmp us ws)) none ∙ none_before us)

greater_back : (o : Ordering) → is_gt (ordering_reverse o) ≡ is_lt o
greater_back Less = refl
greater_back Equal = refl
greater_back Greater = refl

pub before_spelt : (x y n p : ℕ) (us vs : List ℕ) (o : Ordering) → x ≡ n → y ≡ p → o ≡ slice_cmp nat_cmp vs us → is_gt o ≡ is_lt (slice_cmp nat_cmp (x ∷ y ∷ us) (n ∷ p ∷ vs))
before_spelt x y n p us vs o q e h =
    ap is_gt (h ∙ nat_list_cmp_total.antisymm vs us) ∙ greater_back (slice_cmp nat_cmp us vs) ∙ sym (before_units x y n p us vs q e)

-- what stands there does not lead on
pub other : (edges : List Edge) (node : ℕ) (units : List ℕ) (at : ℕ) (x : Edge) → slice_get edges at ≡ Some x → leads_to_units node units x ≡ false
    → (e : Edge) → slice_get edges at ≡ Some e → leads_to_units node units e ≡ true → ⊥
other edges node units at x x_is h e is t =
    let xe : Some x ≡ Some e = sym x_is ∙ is in
    let s : x ≡ e = cc in
    let clash : false ≡ true = sym h ∙ ap (leads_to_units node units) s ∙ t in
    absurd (cc)

pub nothing : (edges : List Edge) (node : ℕ) (units : List ℕ) (at : ℕ) → slice_get edges at ≡ None → (e : Edge) → slice_get edges at ≡ Some e → leads_to_units node units e ≡ true → ⊥
nothing edges node units at none e is t = let n : None ≡ Some e = sym none ∙ is in absurd (cc)

-- ---- by the neighbours

pub follows_at : (edges : List Edge) (at : ℕ) (key : List ℕ) → (at ≡ 0 → ⊥) → stands_before (slice_get edges (at - 1)) key ≡ follows edges at key
follows_at edges zero key h = absurd (h refl)
follows_at edges (suc at) key h = ap (λ (n : ℕ). stands_before (slice_get edges n) key) (let e : suc at - 1 ≡ at = omega arith in e)

-- ---- by places

number_of : (units : List ℕ) (dash index : Bool) → is_dash units ≡ dash → is_index units ≡ index → (n : ℕ) → n < 2 ^ 64 - 1 → is_place units n ≡ (place_of units == n)
number_of units true index d i n h =
    let past : ((2 ^ 64 - 1) == n) ≡ false = grind (arith, nat_tests) in
    ap (λ (b : Bool). b && (value_after 0 units == n)) (dash_no_index units d) ∙ sym (ap (λ (p : Place). place_number p == n) (place_of_dash units (2 ^ 64 - 1) d) ∙ past)
number_of units false false d i n h =
    let past : ((2 ^ 64 - 1) == n) ≡ false = grind (arith, nat_tests) in
    ap (λ (b : Bool). b && (value_after 0 units == n)) i ∙ sym (ap (λ (p : Place). place_number p == n) (place_of_none units (2 ^ 64 - 1) d i) ∙ past)
number_of units false true d i n h =
    ap (λ (b : Bool). b && (value_after 0 units == n)) i
    ∙ sym (ap (λ (p : Place). place_number p == n) (place_of_index units (2 ^ 64 - 1) d i) ∙ below (nat_lt (value_after 0 units) (2 ^ 64 - 1)) refl)
  where
    below : (b : Bool) → nat_lt (value_after 0 units) (2 ^ 64 - 1) ≡ b
        → (place_number (if b then place.Element (value_after 0 units) else place.PastEnd) == n) ≡ (value_after 0 units == n)
    below true e = refl
    below false e =
        let far : 2 ^ 64 - 1 ≤ value_after 0 units = grind (arith, nat_tests) in
        let off : (value_after 0 units == n) ≡ false = grind (arith, nat_tests) in
        let past : ((2 ^ 64 - 1) == n) ≡ false = grind (arith, nat_tests) in
        past ∙ sym off

place_named : (e : Edge) (n : ℕ) → e.place ≡ place_of (edge_units e) → n < 2 ^ 64 - 1 → is_place (edge_units e) n ≡ (e.place == n)
place_named e n h l =
    number_of (edge_units e) (is_dash (edge_units e)) (is_index (edge_units e)) refl refl n l ∙ ap (λ (m : ℕ). m == n) (sym h)

module _ (edges : List Edge) (trie : IsTrie edges) where
  pub partitioned : (key : List ℕ) → IsPartitionedBy (λ e. is_lt (slice_cmp nat_cmp (edge_key e) key)) edges
  partitioned key i j d le low h = pick (i == j) refl
    where
      pick : (b : Bool) → (i == j) ≡ b → is_lt (slice_cmp nat_cmp (edge_key (get_or edges i d)) key) ≡ true
      pick true e = subst (λ (k : ℕ). is_lt (slice_cmp nat_cmp (edge_key (get_or edges k d)) key) ≡ true) (sym (same i j e)) h
      pick false e =
          let l : i < j = grind (arith, nat_tests) in
          below_on (edge_key (get_or edges i d)) (edge_key (get_or edges j d)) key
          ((trie j).rises i (get_or edges i d) (get_or edges j d) l (got edges i d (omega (arith, l, low))) (got edges j d low)) h

  pub first_from_point : (key : List ℕ) (at : ℕ)
      → IsPartitionPoint (λ e. is_lt (slice_cmp nat_cmp (edge_key e) key) ≡ true) (λ e. is_lt (slice_cmp nat_cmp (edge_key e) key) ≡ false) edges at → IsFirstFrom edges key at
  first_from_point key at point = record {
    below = λ j e l is. subst (λ (x : Edge). is_lt (slice_cmp nat_cmp (edge_key x) key) ≡ true) (is_got edges j e e is) (point.0 j e (omega arith) l);
    others = λ j e l is. subst (λ (x : Edge). is_lt (slice_cmp nat_cmp (edge_key x) key) ≡ false) (is_got edges j e e is) (point.1 j e l (there edges j e is));
  }

  -- the first edge that does not stand before a key, by its neighbour in front and by itself
  pub first_beside : (key : List ℕ) (at : ℕ) → follows edges at key ≡ true → stands_before (slice_get edges at) key ≡ false → IsFirstFrom edges key at
  first_beside key at front here = record { below = λ j e l is. early at front j e l is; others = λ j e l is. late j e l is (slice_get edges at) refl here }
    where
      early : (n : ℕ) → follows edges n key ≡ true → (j : ℕ) (e : Edge) → j < n → slice_get edges j ≡ Some e → is_lt (slice_cmp nat_cmp (edge_key e) key) ≡ true
      early zero f j e l is = absurd (omega (arith, l))
      early (suc n) f j e l is = by (slice_get edges n) refl f (j == n) refl
        where
          by : (o : Option Edge) → slice_get edges n ≡ o → stands_before o key ≡ true → (b : Bool) → (j == n) ≡ b → is_lt (slice_cmp nat_cmp (edge_key e) key) ≡ true
          by None s t b q = absurd (cc)
          by (Some x) s t true q =
              let xe : Some x ≡ Some e = sym s ∙ ap (slice_get edges) (sym (same j n q)) ∙ is in
              let y : x ≡ e = cc in
              subst (λ (z : Edge). is_lt (slice_cmp nat_cmp (edge_key z) key) ≡ true) y t
          by (Some x) s t false q =
              let before : j < n = grind (arith, nat_tests) in
              below_on (edge_key e) (edge_key x) key ((trie n).rises j e x before is s) t

      late : (j : ℕ) (e : Edge) → at ≤ j → slice_get edges j ≡ Some e → (o : Option Edge) → slice_get edges at ≡ o → stands_before o key ≡ false → is_lt (slice_cmp nat_cmp (edge_key e) key) ≡ false
      late j e l is None s t =
          let in_range = there edges j e is in
          let h = here_at edges at (omega (arith, l, in_range)) in
          let n : None ≡ Some h.edge = sym s ∙ h.is in
          absurd (cc)
      late j e l is (Some x) s t = pick (at == j) refl
        where
          pick : (b : Bool) → (at == j) ≡ b → is_lt (slice_cmp nat_cmp (edge_key e) key) ≡ false
          pick true q =
              let xe : Some x ≡ Some e = sym s ∙ ap (slice_get edges) (same at j q) ∙ is in
              let y : x ≡ e = cc in
              subst (λ (z : Edge). is_lt (slice_cmp nat_cmp (edge_key z) key) ≡ false) y t
          pick false q =
              let later : at < j = grind (arith, nat_tests) in
              false_from_ne_true (is_lt (slice_cmp nat_cmp (edge_key e) key)) (λ k.
              let clash : false ≡ true = sym t ∙ below_on (edge_key x) (edge_key e) key ((trie j).rises at x e later s is) k in
              absurd (cc))

  -- ---- by units

  module _ (node : ℕ) (units : List ℕ) (at : ℕ) (first : IsFirstFrom edges (node ∷ place_of units ∷ units) at) where
    key_is : (j : ℕ) (e : Edge) → slice_get edges j ≡ Some e → leads_to_units node units e ≡ true → edge_key e ≡ node ∷ place_of units ∷ units
    key_is j e is h =
        let u : units ≡ edge_units e = same_units units (edge_units e) (second_true (e.parent == node) (is_eq (slice_cmp nat_cmp units (edge_units e))) h) in
        ap (λ (n : ℕ). n ∷ e.place ∷ edge_units e) (same e.parent node (first_true (e.parent == node) (is_eq (slice_cmp nat_cmp units (edge_units e))) h))
        ∙ ap (λ (n : ℕ). node ∷ n ∷ edge_units e) ((trie j).place_is e is)
        ∙ ap (λ (us : List ℕ). node ∷ place_of us ∷ us) (sym u)

    early : (j : ℕ) (e : Edge) → j < at → slice_get edges j ≡ Some e → leads_to_units node units e ≡ true → ⊥
    early j e l is h =
        let key = node ∷ place_of units ∷ units in
        let yes : is_lt (slice_cmp nat_cmp key key) ≡ true = subst (λ (k : List ℕ). is_lt (slice_cmp nat_cmp k key) ≡ true) (key_is j e is h) (first.below j e l is) in
        let clash : true ≡ false = sym yes ∙ not_below key in
        absurd (cc)

    pub child_hit : (e : Edge) → slice_get edges at ≡ Some e → leads_to_units node units e ≡ true → child_at edges node units ≡ Some (at + 1)
    child_hit e is h =
        first_hit (leads_to_units node units) edges 1 at e is h (λ j a l a_is. false_from_ne_true (leads_to_units node units a) (λ t. early j a l a_is t))
        ∙ ap (λ (n : ℕ). Some n) (let z : 1 + at ≡ at + 1 = omega arith in z)

    pub child_miss : ((e : Edge) → slice_get edges at ≡ Some e → leads_to_units node units e ≡ true → ⊥) → child_at edges node units ≡ None
    child_miss never_so = first_none (leads_to_units node units) edges 1 (λ j a is. false_from_ne_true (leads_to_units node units a) (λ t. by j a is t (nat_lt j at) refl (j == at) refl))
      where
        by : (j : ℕ) (a : Edge) → slice_get edges j ≡ Some a → leads_to_units node units a ≡ true → (b : Bool) → nat_lt j at ≡ b → (c : Bool) → (j == at) ≡ c → ⊥
        by j a is t true l c s = early j a (let x : j < at = grind (arith, nat_tests) in x) is t
        by j a is t false l true s = never_so a (ap (slice_get edges) (sym (same j at s)) ∙ is) t
        by j a is t false l false s =
            let later : at < j = grind (arith, nat_tests) in
            let in_range = there edges j a is in
            let h = here_at edges at (omega (arith, later, in_range)) in
            let key = node ∷ place_of units ∷ units in
            let yes : is_lt (slice_cmp nat_cmp (edge_key h.edge) key) ≡ true = subst (λ (k : List ℕ). is_lt (slice_cmp nat_cmp (edge_key h.edge) k) ≡ true) (key_is j a is t) ((trie j).rises at h.edge a later h.is is) in
            let n = first.others at h.edge (omega arith) h.is in
            let clash : true ≡ false = sym yes ∙ n in
            absurd (cc)

  -- ---- by places

  module _ (node place : ℕ) (low : place < 2 ^ 64 - 1) where
    record Named (e : Edge) : Type 0 where
      parent : e.parent ≡ node
      place_is : e.place ≡ place

    named : (j : ℕ) (e : Edge) → slice_get edges j ≡ Some e → leads_to_place node place e ≡ true → Named e
    named j e is h =
        record { parent = same e.parent node (first_true (e.parent == node) (is_place (edge_units e) place) h); place_is = same e.place place (sym (place_named e place ((trie j).place_is e is) low) ∙ second_true (e.parent == node) (is_place (edge_units e) place) h) }

    -- no edge from the node names it where none names a place from it on and below one that is greater
    pub element_later : (next : ℕ) → IsNextFrom edges node place next → place < next → None ≡ element_at edges node place
    element_later next none l =
        sym (first_none (leads_to_place node place) edges 1 (λ j a is. false_from_ne_true (leads_to_place node place a) (λ t.
        let n = named j a is t in
        let p = n.place_is in
        let b = none j a is n.parent (omega (arith, p, l)) in
        absurd (omega (arith, p, b)))))

  module _ (node place : ℕ) (at : ℕ) (first : IsFirstFrom edges (node ∷ place ∷ []) at) where
    -- none but those before it name a place below that of the edge found
    pub next_is : IsNextFrom edges node place (place_from edges at node)
    next_is i e is p l = by (nat_lt i at) refl
      where
        high : (h : Here edges at) → at ≤ i → Low h.edge.parent h.edge.place node e.place
        high h le = pick (i == at) refl
          where
            pick : (b : Bool) → (i == at) ≡ b → Low h.edge.parent h.edge.place node e.place
            pick true s =
                let ee : Some h.edge ≡ Some e = sym h.is ∙ ap (slice_get edges) (sym (same i at s)) ∙ is in
                let x : h.edge ≡ e = cc in
                let a : h.edge.parent ≡ node = ap (λ (y : Edge). y.parent) x ∙ p in
                let b : h.edge.place ≡ e.place = ap (λ (y : Edge). y.place) x in
                record { parent = omega (arith, a); place = λ q. omega (arith, b) }
            pick false s =
                let later : at < i = grind (arith, nat_tests) in
                let g = low_parts h.edge.parent h.edge.place e.parent e.place (edge_units h.edge) (edge_units e) ((trie i).rises at h.edge e later h.is is) in
                let a = g.parent in
                record { parent = omega (arith, a, p); place = λ q. g.place (q ∙ sym p) }

        by : (b : Bool) → nat_lt i at ≡ b → e.place < place
        by true s =
            let early : i < at = grind (arith, nat_tests) in
            (lower_parts e.parent e.place node place (edge_units e) (first.below i e early is)).place p
        by false s =
            let le : at ≤ i = grind (arith, nat_tests) in
            let in_range = there edges i e is in
            let h = here_at edges at (omega (arith, le, in_range)) in
            let g = high h le in
            let o = high_parts h.edge.parent h.edge.place node place (edge_units h.edge) (first.others at h.edge (omega arith) h.is) in
            let a = g.parent in
            let b = o.parent in
            let q : h.edge.parent ≡ node = omega (arith, a, b) in
            let eqb : (h.edge.parent == node) ≡ true = grind (arith, nat_tests) in
            let found : place_from edges at node ≡ h.edge.place = ap (λ (x : Option Edge). place_at x node) h.is ∙ ap (λ (c : Bool). cond c h.edge.place (2 ^ 64 - 1)) eqb in
            let c = g.place q in
            absurd (omega (arith, l, found, c))

    module _ (low : place < 2 ^ 64 - 1) where
      pub element_hit : place_from edges at node ≡ place → Some (at + 1) ≡ element_at edges node place
      element_hit h = by (slice_get edges at) refl
        where
          earlier : (j : ℕ) (a : Edge) → j < at → slice_get edges j ≡ Some a → leads_to_place node place a ≡ false
          earlier j a l is = false_from_ne_true (leads_to_place node place a) (λ t.
              let n = named node place low j a is t in
              let g = (lower_parts a.parent a.place node place (edge_units a) (first.below j a l is)).place n.parent in
              let p = n.place_is in
              absurd (omega (arith, p, g)))

          found : (e : Edge) → slice_get edges at ≡ Some e → (b : Bool) → (e.parent == node) ≡ b → cond b e.place (2 ^ 64 - 1) ≡ place → leads_to_place node place e ≡ true
          found e is true q k =
              ap (λ (b : Bool). b && is_place (edge_units e) place) q ∙ place_named e place ((trie at).place_is e is) low ∙ (let z : (e.place == place) ≡ true = grind (arith, nat_tests, k) in z)
          found e is false q k = absurd (omega (arith, low, k))

          by : (o : Option Edge) → slice_get edges at ≡ o → Some (at + 1) ≡ element_at edges node place
          by None e = absurd (let z : 2 ^ 64 - 1 ≡ place = sym (ap (λ (x : Option Edge). place_at x node) e) ∙ h in omega (arith, low, z))
          by (Some x) e =
              sym (first_hit (leads_to_place node place) edges 1 at x e (found x e (x.parent == node) refl (sym (ap (λ (y : Option Edge). place_at y node) e) ∙ h)) earlier
              ∙ ap (λ (n : ℕ). Some n) (let z : 1 + at ≡ at + 1 = omega arith in z))

      pub element_miss : (place_from edges at node ≡ place → ⊥) → None ≡ element_at edges node place
      element_miss never_so =
          sym (first_none (leads_to_place node place) edges 1 (λ j a is. false_from_ne_true (leads_to_place node place a) (λ t.
          let n = named node place low j a is t in
          let p = n.place_is in
          by j a is n.parent p (nat_lt j at) refl)))
        where
          by : (j : ℕ) (a : Edge) → slice_get edges j ≡ Some a → a.parent ≡ node → a.place ≡ place → (b : Bool) → nat_lt j at ≡ b → ⊥
          by j a is n p true l =
              let early : j < at = grind (arith, nat_tests) in
              let g = (lower_parts a.parent a.place node place (edge_units a) (first.below j a early is)).place n in
              absurd (omega (arith, p, g))
          by j a is n p false l = pick (j == at) refl
            where
              eq_of : (e : Edge) → slice_get edges at ≡ Some e → e.parent ≡ node → e.place ≡ place → place_from edges at node ≡ place
              eq_of e e_is q s =
                  let eqb : (e.parent == node) ≡ true = grind (arith, nat_tests) in
                  ap (λ (x : Option Edge). place_at x node) e_is ∙ ap (λ (c : Bool). cond c e.place (2 ^ 64 - 1)) eqb ∙ s

              pick : (b : Bool) → (j == at) ≡ b → ⊥
              pick true s = never_so (eq_of a (ap (slice_get edges) (sym (same j at s)) ∙ is) n p)
              pick false s =
                  let later : at < j = grind (arith, nat_tests) in
                  let in_range = there edges j a is in
                  let h = here_at edges at (omega (arith, later, in_range)) in
                  let g = low_parts h.edge.parent h.edge.place a.parent a.place (edge_units h.edge) (edge_units a) ((trie j).rises at h.edge a later h.is is) in
                  let o = high_parts h.edge.parent h.edge.place node place (edge_units h.edge) (first.others at h.edge (omega arith) h.is) in
                  let a1 = g.parent in
                  let b1 = o.parent in
                  let q : h.edge.parent ≡ node = omega (arith, a1, b1, n) in
                  let c1 = g.place (q ∙ sym n) in
                  let d1 = o.place (sym q) in
                  let s1 : h.edge.place ≡ place = omega (arith, c1, d1, p) in
                  never_so (eq_of h.edge h.is q s1)
