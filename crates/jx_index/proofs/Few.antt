-- Where a node's few edges are tried one after another.
use Rattle.std.proofs.Common.{◌≡◌, ℕ, ◌+◌, ◌-◌, ◌^◌, ◌<◌, ◌≤◌, List, [], ◌∷◌, Bool, true, false, Option, None, Some, refl, sym, ap, ◌∙◌, arith}
use Rattle.std.specs.Prelude.{◌==◌, ◌&&◌, not, nat_le, nat_lt, slice_get}
use Rattle.std.specs.declared.cmp.Ordering.{Ordering}
use Rattle.std.specs.declared.cmp.Ordering.TheVariants.{Less, Equal, Greater}
use Rattle.std.specs.Ordering.{nat_cmp, is_eq, is_lt, ordering_then, MatchOrdering}
use Rattle.std.specs.Cmp.Lexicographic.{slice_cmp}
use Rattle.std.proofs.lemmas.Bool.Decides.{nat_tests}
use Rattle.std.proofs.lemmas.Bool.{false_from_ne_true}
use Rattle.std.proofs.lemmas.Cmp.{ranked}
use Rattle.jx_index.specs.declared.trie.Edge.{Edge}
use Rattle.jx_index.specs.ArrayTokens.{all_digits, is_dash, is_digit, is_index}
use Rattle.jx_index.specs.inside.FewEdges.{is_led, BeginsAt, EndsAt}
use Rattle.jx_index.specs.inside.Trie.{child_at, edge_units, leads_to_units, place_number, place_of, IsTrie}
use Rattle.jx_index.proofs.Lookups.{here_at, there}
use Rattle.jx_index.proofs.Reaches.{place_of_none}
use Rattle.jx_index.proofs.Tests.{first_true, same}
use Rattle.jx_index.proofs.Ways.{first_hit, first_none}

first_rises : (x n : ℕ) (us vs : List ℕ) → is_lt (slice_cmp nat_cmp (x ∷ us) (n ∷ vs)) ≡ true → x ≤ n
first_rises x n us vs h = by (nat_cmp x n) (ranked x n (nat_cmp x n) refl) h
  where
    by : (o : Ordering) → MatchOrdering o (x < n) (x ≡ n) (n < x) → is_lt (ordering_then o (slice_cmp nat_cmp us vs)) ≡ true → x ≤ n
    by Less m k = omega (arith, m)
    by Equal m k = omega (arith, m)
    by Greater m k = absurd (cc)

parents_rise : (edges : List Edge) → IsTrie edges → (i j : ℕ) (a b : Edge) → i ≤ j → slice_get edges i ≡ Some a → slice_get edges j ≡ Some b → a.parent ≤ b.parent
parents_rise edges trie i j a b le a_is b_is = by (i == j) refl
  where
    by : (t : Bool) → (i == j) ≡ t → a.parent ≤ b.parent
    by true q =
        let ab : Some a ≡ Some b = sym a_is ∙ ap (slice_get edges) (same i j q) ∙ b_is in
        let x : a ≡ b = cc in
        let p : a.parent ≡ b.parent = ap (λ (y : Edge). y.parent) x in
        omega (arith, p)
    by false q =
        let later : i < j = grind (arith, nat_tests) in
        first_rises a.parent b.parent (a.place ∷ edge_units a) (b.place ∷ edge_units b) ((trie j).rises i a b later a_is b_is)

module _ (edges : List Edge) (trie : IsTrie edges) (node at : ℕ) (x : Edge) where
  -- the edge in front leads from an earlier node
  pub begins : 0 < at → slice_get edges (at - 1) ≡ Some x → x.parent < node → BeginsAt edges node at
  begins some is low i e e_is p = by (nat_lt i at) refl
    where
      by : (b : Bool) → nat_lt i at ≡ b → at ≤ i
      by true l =
          let early : i ≤ at - 1 = grind (arith, nat_tests) in
          let rises = parents_rise edges trie i (at - 1) e x early e_is is in
          absurd (omega (arith, rises, p, low))
      by false l = grind (arith, nat_tests)

  -- the edge there leads from a later node
  pub ends : slice_get edges at ≡ Some x → node < x.parent → EndsAt edges node at
  ends is high i e e_is p = by (nat_lt i at) refl
    where
      by : (b : Bool) → nat_lt i at ≡ b → i < at
      by true l = grind (arith, nat_tests)
      by false l =
          let late : at ≤ i = grind (arith, nat_tests) in
          let rises = parents_rise edges trie at i x e late is e_is in
          absurd (omega (arith, rises, p, high))

pub begins_at_first : (edges : List Edge) (node at : ℕ) → at ≤ 0 → BeginsAt edges node at
begins_at_first edges node at h i e is p = omega (arith, h)

pub ends_at_last : (edges : List Edge) (node at : ℕ) → slice_get edges at ≡ None → EndsAt edges node at
ends_at_last edges node at none i e is p = by (nat_lt i at) refl
  where
    by : (b : Bool) → nat_lt i at ≡ b → i < at
    by true l = grind (arith, nat_tests)
    by false l =
        let late : at ≤ i = grind (arith, nat_tests) in
        let in_range = there edges i e is in
        let h = here_at edges at (omega (arith, late, in_range)) in
        let clash : None ≡ Some h.edge = sym none ∙ h.is in
        absurd (cc)

-- no edge in front of a number leads on
abbrev pub NoneBefore : List Edge → ℕ → List ℕ → ℕ → Type 0
NoneBefore edges node units at = (i : ℕ) (e : Edge) → i < at → slice_get edges i ≡ Some e → leads_to_units node units e ≡ false

module _ (edges : List Edge) (node : ℕ) (units : List ℕ) where
  parent_is : (e : Edge) → leads_to_units node units e ≡ true → e.parent ≡ node
  parent_is e t = same e.parent node (first_true (e.parent == node) (is_eq (slice_cmp nat_cmp units (edge_units e))) t)

  pub none_at_all : (at end : ℕ) → NoneBefore edges node units at → end ≤ at → EndsAt edges node end → child_at edges node units ≡ None
  none_at_all at end none le stop = first_none (leads_to_units node units) edges 1 (λ i e is. by i e is (nat_lt i at) refl)
    where
      by : (i : ℕ) (e : Edge) → slice_get edges i ≡ Some e → (b : Bool) → nat_lt i at ≡ b → leads_to_units node units e ≡ false
      by i e is true l = none i e (let early : i < at = grind (arith, nat_tests) in early) is
      by i e is false l =
          let late : at ≤ i = grind (arith, nat_tests) in
          false_from_ne_true (leads_to_units node units e) (λ t. let early = stop i e is (parent_is e t) in absurd (omega (arith, late, le, early)))

  pub one_there : (at : ℕ) → NoneBefore edges node units at → is_led (slice_get edges at) node units ≡ true → child_at edges node units ≡ Some (at + 1)
  one_there at none on = by (slice_get edges at) refl on
    where
      by : (o : Option Edge) → slice_get edges at ≡ o → is_led o node units ≡ true → child_at edges node units ≡ Some (at + 1)
      by None s t = absurd (cc)
      by (Some e) s t = first_hit (leads_to_units node units) edges 1 at e s t none ∙ ap (λ (n : ℕ). Some n) (let z : 1 + at ≡ at + 1 = omega arith in z)

-- ---- a first unit that begins no place

high_digit : (first : ℕ) → 0x39 < first → is_digit first ≡ false
high_digit first high =
    let e : nat_le first 0x39 ≡ false = grind (arith, nat_tests) in
    ap (λ (b : Bool). nat_le 0x30 first && b) e ∙ off (nat_le 0x30 first)
  where
    off : (b : Bool) → (b && false) ≡ false
    off true = refl
    off false = refl

no_place : (first : ℕ) (units : List ℕ) → (first ≡ 0x2d → ⊥) → is_digit first ≡ false → place_of (first ∷ units) ≡ 2 ^ 64 - 1
no_place first units other digit = ap place_number (place_of_none (first ∷ units) (2 ^ 64 - 1) (no_dash units) (no_index units))
  where
    no_dash : (us : List ℕ) → is_dash (first ∷ us) ≡ false
    no_dash [] = grind (arith, nat_tests)
    no_dash (u ∷ us) = refl

    no_index : (us : List ℕ) → is_index (first ∷ us) ≡ false
    no_index [] = digit
    no_index (u ∷ us) = ap (λ (b : Bool). (b && not (first == 0x30)) && all_digits (u ∷ us)) digit

pub above_digits : (first : ℕ) (units more : List ℕ) → units ≡ first ∷ more → 0x39 < first → 2 ^ 64 - 1 ≡ place_of units
above_digits first units more is high = sym (ap place_of is ∙ no_place first more (λ e. omega (arith, e, high)) (high_digit first high))
