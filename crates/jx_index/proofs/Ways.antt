-- Where the tokens of a pointer lead in a trie, and what was met there.
use Rattle.std.proofs.Common.{◌≡◌, ℕ, zero, suc, ◌+◌, ◌<◌, ◌≤◌, List, [], ◌∷◌, map, Bool, true, false, cond, Option, None, Some, refl, sym, ap, subst, ◌∙◌, arith}
use Rattle.std.specs.Prelude.{◌==◌, ◌&&◌, slice_get}
use Rattle.std.specs.Ordering.{nat_cmp, is_lt}
use Rattle.std.specs.Cmp.Lexicographic.{slice_cmp, nat_list_cmp_total}
use Rattle.std.proofs.lemmas.Bool.Decides.{nat_tests}
use Rattle.std.proofs.lemmas.Cmp.{tied_itself}
use Rattle.std.proofs.lemmas.Bool.{and_from, false_from_ne_true}
use Rattle.jx_index.specs.declared.finder.Met.{Met}
use Rattle.jx_index.specs.declared.finder.Met.TheVariants as met
use Rattle.jx_index.specs.declared.trie.Edge.{Edge}
use Rattle.jx_index.specs.inside.Finding.{change, met_at, one_deeper}
use Rattle.jx_index.specs.inside.Trie.{after_one, edge_key, edge_units, first_of, is_before, level_of, level_on, place_of, IsTrie, IsWay, stops, goes}
use Rattle.jx_index.proofs.Tests.{first_true, not_same, same, second_true}

-- ---- levels

pub data Stand (n m : ℕ) (path : List ℕ) (j : ℕ) : Type 0 where
  here : n ≡ m → j ≡ 0 → Stand n m path j
  later : (n ≡ m → ⊥) → (k : ℕ) → level_on path m ≡ Some k → j ≡ suc k → Stand n m path j

behind : (n m : ℕ) (path : List ℕ) (j : ℕ) → (n == m) ≡ false → (o : Option ℕ) → level_on path m ≡ o → after_one o ≡ Some j → Stand n m path j
behind n m path j e None g h = absurd (cc)
behind n m path j e (Some k) g h = let i : suc k ≡ j = cc in later (not_same n m e) k g (sym i)

pub stands : (n m : ℕ) (path : List ℕ) (j : ℕ) → level_on (n ∷ path) m ≡ Some j → Stand n m path j
stands n m path j h = pick (n == m) refl h
  where
    pick : (b : Bool) → (n == m) ≡ b → cond b (Some 0) (after_one (level_on path m)) ≡ Some j → Stand n m path j
    pick true e k = let z : 0 ≡ j = cc in here (same n m e) (sym z)
    pick false e k = behind n m path j e (level_on path m) refl k

-- a node that does not stand on a path
pub record Absent (n m : ℕ) (path : List ℕ) : Type 0 where
  pub other : n ≡ m → ⊥
  pub rest : level_on path m ≡ None

none_behind : (o : Option ℕ) → after_one o ≡ None → o ≡ None
none_behind None h = refl
none_behind (Some k) h = absurd (cc)

pub absent : (n m : ℕ) (path : List ℕ) → level_on (n ∷ path) m ≡ None → Absent n m path
absent n m path h = pick (n == m) refl h
  where
    pick : (b : Bool) → (n == m) ≡ b → cond b (Some 0) (after_one (level_on path m)) ≡ None → Absent n m path
    pick true e k = absurd (cc)
    pick false e k = record { other = not_same n m e; rest = none_behind (level_on path m) k }

-- levels from a later node on
pub level_here : (n : ℕ) (path : List ℕ) → level_on (n ∷ path) n ≡ Some 0
level_here n path = let e : (n == n) ≡ true = grind (arith, nat_tests) in ap (λ (b : Bool). cond b (Some 0) (after_one (level_on path n))) e

pub level_later : (n m : ℕ) (path : List ℕ) (k : ℕ) → n < m → level_on path m ≡ Some k → level_on (n ∷ path) m ≡ Some (suc k)
level_later n m path k l h =
    let e : (n == m) ≡ false = grind (arith, nat_tests) in
    ap (λ (b : Bool). cond b (Some 0) (after_one (level_on path m))) e ∙ ap after_one h

module _ (edges : List Edge) where
  -- nodes rise along a path
  pub low : {n : ℕ} {ts : List (List ℕ)} {path : List ℕ} → IsWay edges n ts path → (m j : ℕ) → level_on path m ≡ Some j → n ≤ m
  low {n = n} stops m j h = elim (stands n m [] j h) [ here e z ↦ omega (arith, e) | later o k g s ↦ absurd (cc) ]
  low {n = n} (goes {c = c} {path = path} e is parent units le way) m j h =
      elim (stands n m path j h) [ here q z ↦ omega (arith, q) | later o k g s ↦ (let b = low way m k g in omega (arith, b, le)) ]

  pub record Up (ts : List (List ℕ)) (path : List ℕ) (e : Edge) (j : ℕ) : Type 0 where
    pub level : ℕ
    pub parent : level_on path e.parent ≡ Some level
    pub deeper : j ≡ suc level
    pub token : slice_get ts level ≡ Some (edge_units e)

  -- a node on the path has its parent there, and the token between them leads to it
  pub up : {n : ℕ} {ts : List (List ℕ)} {path : List ℕ} → IsWay edges n ts path → (c : ℕ) (e : Edge) (j : ℕ) → slice_get edges c ≡ Some e → level_on path (suc c) ≡ Some j → (n ≡ suc c → ⊥)
      → Up ts path e j
  up {n = n} stops c e j is h other = elim (stands n (suc c) [] j h) [ here q z ↦ absurd (other q) | later o k g s ↦ absurd (cc) ]
  up {n = n} (goes {c = d} {token = t} {more = ts} {path = path} a a_is parent units le way) c e j is h other =
      elim (stands n (suc c) path j h) [ here q z ↦ absurd (other q) | later o k g s ↦ go k g s (λ q. up way c e k is g q) (suc d == suc c) refl ]
    where
      step : (k : ℕ) → j ≡ suc k → Up ts path e k → Up (t ∷ ts) (n ∷ path) e j
      step k s u =
          let b = low way e.parent u.level u.parent in
          let l : n < e.parent = omega (arith, b, le) in
          record { level = suc u.level; parent = level_later n e.parent path u.level l u.parent; deeper = s ∙ ap suc u.deeper; token = u.token }

      first : (k : ℕ) → j ≡ suc k → suc d ≡ suc c → level_on path (suc c) ≡ Some k → IsWay edges (suc d) ts path → Up (t ∷ ts) (n ∷ path) e j
      first k s q g w =
          let dc : d ≡ c = omega (arith, q) in
          let ae : Some a ≡ Some e = sym a_is ∙ ap (slice_get edges) dc ∙ is in
          let same_edge : a ≡ e = cc in
          let p : n ≡ e.parent = sym parent ∙ ap (λ (x : Edge). x.parent) same_edge in
          let zero_is : k ≡ 0 = head w k (subst (λ (m : ℕ). level_on path m ≡ Some k) (sym q) g) in
          record {
            level = 0;
            parent = ap (level_on (n ∷ path)) (sym p) ∙ level_here n path;
            deeper = s ∙ ap suc zero_is;
            token = ap (λ (us : List ℕ). Some us) (sym units ∙ ap edge_units same_edge);
          }
        where
          head : {m : ℕ} {us : List (List ℕ)} {way_on : List ℕ} → IsWay edges m us way_on → (k : ℕ) → level_on way_on m ≡ Some k → k ≡ 0
          head {m = m} stops k h = let f = level_here m [] in let z : Some 0 ≡ Some k = sym f ∙ h in let r : 0 ≡ k = cc in sym r
          head {m = m} (goes {path = rest} _ _ _ _ _ _) k h = let f = level_here m rest in let z : Some 0 ≡ Some k = sym f ∙ h in let r : 0 ≡ k = cc in sym r

      go : (k : ℕ) → level_on path (suc c) ≡ Some k → j ≡ suc k → ((suc d ≡ suc c → ⊥) → Up ts path e k) → (b : Bool) → (suc d == suc c) ≡ b → Up (t ∷ ts) (n ∷ path) e j
      go k g s rec true q = first k s (same (suc d) (suc c) q) g way
      go k g s rec false q = step k s (rec (not_same (suc d) (suc c) q))

  pub record Down (ts : List (List ℕ)) (path : List ℕ) (m j : ℕ) (t : List ℕ) : Type 0 where
    pub number : ℕ
    pub edge : Edge
    pub is : slice_get edges number ≡ Some edge
    pub parent : edge.parent ≡ m
    pub token : edge_units edge ≡ t
    pub level : level_on path (suc number) ≡ Some (suc j)

  -- the next token of a path leads to its next node
  pub down : {n : ℕ} {ts : List (List ℕ)} {path : List ℕ} → IsWay edges n ts path → (m j : ℕ) (t : List ℕ) → level_on path m ≡ Some j → slice_get ts j ≡ Some t → Down ts path m j t
  down stops m j t h g = absurd (cc)
  down {n = n} (goes {c = c} {token = u} {more = ts} {path = path} e is parent units le way) m j t h g =
      elim (stands n m path j h) [ here q z ↦ start q z | later o k f s ↦ on k s (down way m k t f (sym (ap (slice_get (u ∷ ts)) s) ∙ g)) ]
    where
      first_level : {i : ℕ} {us : List (List ℕ)} {rest : List ℕ} → IsWay edges i us rest → level_on rest i ≡ Some 0
      first_level {i = i} stops = level_here i []
      first_level {i = i} (goes {path = rest} _ _ _ _ _ _) = level_here i rest

      start : n ≡ m → j ≡ 0 → Down (u ∷ ts) (n ∷ path) m j t
      start q z =
          let tok : Some u ≡ Some t = sym (ap (slice_get (u ∷ ts)) z) ∙ g in
          let tu : u ≡ t = cc in
          record {
            number = c;
            edge = e;
            is = is;
            parent = parent ∙ q;
            token = units ∙ tu;
            level = level_later n (suc c) path 0 (omega (arith, le)) (first_level way) ∙ ap (λ (x : ℕ). Some (suc x)) (sym z);
          }

      on : (k : ℕ) → j ≡ suc k → Down ts path m k t → Down (u ∷ ts) (n ∷ path) m j t
      on k s d =
          let b = low way (suc d.number) (suc k) d.level in
          record {
            number = d.number;
            edge = d.edge;
            is = d.is;
            parent = d.parent;
            token = d.token;
            level = level_later n (suc d.number) path (suc k) (omega (arith, b, le)) d.level ∙ ap (λ (x : ℕ). Some (suc x)) (sym s);
          }

-- ---- the first edge that passes a test

pub record First (p : Edge → Bool) (edges : List Edge) (i t : ℕ) : Type 0 where
  pub number : ℕ
  pub edge : Edge
  pub node : t ≡ i + number
  pub is : slice_get edges number ≡ Some edge
  pub passes : p edge ≡ true

pub passed : (p : Edge → Bool) (edges : List Edge) (i t : ℕ) → first_of p edges i ≡ Some t → First p edges i t
passed p [] i t h = absurd (cc)
passed p (e ∷ edges) i t h = pick (p e) refl h (λ k. passed p edges (suc i) t k)
  where
    pick : (b : Bool) → p e ≡ b → cond b (Some i) (first_of p edges (suc i)) ≡ Some t → (first_of p edges (suc i) ≡ Some t → First p edges (suc i) t) → First p (e ∷ edges) i t
    pick true q k rec = let it : i ≡ t = cc in record { number = 0; edge = e; node = omega (arith, it); is = refl; passes = q }
    pick false q k rec = let r = rec k in record { number = suc r.number; edge = r.edge; node = omega (arith, r.node); is = r.is; passes = r.passes }

pub first_hit : (p : Edge → Bool) (edges : List Edge) (i c : ℕ) (e : Edge) → slice_get edges c ≡ Some e → p e ≡ true
    → ((j : ℕ) (a : Edge) → j < c → slice_get edges j ≡ Some a → p a ≡ false) → first_of p edges i ≡ Some (i + c)
first_hit p [] i c e is h before = absurd (cc)
first_hit p (x ∷ edges) i zero e is h before =
    let xe : x ≡ e = cc in
    ap (λ (b : Bool). cond b (Some i) (first_of p edges (suc i))) (ap p xe ∙ h) ∙ ap (λ (n : ℕ). Some n) (let z : i ≡ i + 0 = omega arith in z)
first_hit p (x ∷ edges) i (suc c) e is h before =
    ap (λ (b : Bool). cond b (Some i) (first_of p edges (suc i))) (before 0 x (omega arith) refl)
    ∙ first_hit p edges (suc i) c e is h (λ j a l g. before (suc j) a (omega (arith, l)) g)
    ∙ ap (λ (n : ℕ). Some n) (let z : suc i + c ≡ i + suc c = omega arith in z)

pub first_none : (p : Edge → Bool) (edges : List Edge) (i : ℕ) → ((j : ℕ) (a : Edge) → slice_get edges j ≡ Some a → p a ≡ false) → first_of p edges i ≡ None
first_none p [] i h = refl
first_none p (x ∷ edges) i h =
    ap (λ (b : Bool). cond b (Some i) (first_of p edges (suc i))) (h 0 x refl) ∙ first_none p edges (suc i) (λ j a g. h (suc j) a g)

-- ---- from a node on a path

-- a token that may lead on, among those of all pointers
abbrev pub by_units : (List ℕ → Bool) → ℕ → Edge → Bool
by_units q node e = (e.parent == node) && q (edge_units e)

abbrev pub by_token : (List ℕ → Bool) → Option (List ℕ) → Bool
by_token q None = false
by_token q (Some token) = q token

module _ (edges : List Edge) (trie : IsTrie edges) where
  -- two edges of one token from one node are the same
  pub apart : (i j : ℕ) (a b : Edge) → i < j → slice_get edges i ≡ Some a → slice_get edges j ≡ Some b → a.parent ≡ b.parent → edge_units a ≡ edge_units b → ⊥
  apart i j a b l a_is b_is p u =
      let places : a.place ≡ b.place = (trie i).place_is a a_is ∙ ap place_of u ∙ sym ((trie j).place_is b b_is) in
      let keys : edge_key a ≡ edge_key b =
      ap (λ (n : ℕ). n ∷ a.place ∷ edge_units a) p ∙ ap (λ (n : ℕ). b.parent ∷ n ∷ edge_units a) places ∙ ap (λ (us : List ℕ). b.parent ∷ b.place ∷ us) u in
      let up_to : is_before a b ≡ true = (trie j).rises i a b l a_is b_is in
      let equal : is_before a b ≡ false = ap (λ (k : List ℕ). is_lt (slice_cmp nat_cmp k (edge_key b))) keys ∙ ap is_lt (tied_itself nat_list_cmp_total (edge_key b)) in
      let clash : true ≡ false = sym up_to ∙ equal in
      absurd (cc)

  module _ (ts : List (List ℕ)) (path : List ℕ) (way : IsWay edges 0 ts path) (q : List ℕ → Bool) where
    -- what stands below a node off the path is off it
    pub none_below : (node : ℕ) → level_on path node ≡ None → level_of path (first_of (by_units q node) edges 1) ≡ None
    none_below node off = pick (first_of (by_units q node) edges 1) refl
      where
        pick : (o : Option ℕ) → first_of (by_units q node) edges 1 ≡ o → level_of path o ≡ None
        pick None e = refl
        pick (Some t) e = on (level_on path t) refl
          where
            f : First (by_units q node) edges 1 t
            f = passed (by_units q node) edges 1 t e

            on : (o : Option ℕ) → level_on path t ≡ o → level_on path t ≡ None
            on None g = g
            on (Some j) g =
                let n : t ≡ suc f.number = omega (arith, f.node) in
                let u = up edges way f.number f.edge j f.is (sym (ap (level_on path) n) ∙ g) (λ z. absurd (omega (arith, z))) in
                let p : f.edge.parent ≡ node = same f.edge.parent node (first_true (f.edge.parent == node) (q (edge_units f.edge)) f.passes) in
                let clash : Some u.level ≡ None = sym u.parent ∙ ap (level_on path) p ∙ off in
                absurd (cc)

    -- from a node on the path only the next token leads along it
    pub along : (one : (u v : List ℕ) → q u ≡ true → q v ≡ true → u ≡ v) → (node j : ℕ) → level_on path node ≡ Some j
        → level_of path (first_of (by_units q node) edges 1) ≡ one_deeper (by_token q (slice_get ts j)) j
    along one node j on_it = pick (slice_get ts j) refl
      where
        -- what is found on the path is found by the next token
        found : (t : ℕ) → first_of (by_units q node) edges 1 ≡ Some t → (k : ℕ) → level_on path t ≡ Some k → (token : List ℕ) × (slice_get ts j ≡ Some token) × (q token ≡ true)
        found t e k g =
            let f = passed (by_units q node) edges 1 t e in
            let n : t ≡ suc f.number = omega (arith, f.node) in
            let u = up edges way f.number f.edge k f.is (sym (ap (level_on path) n) ∙ g) (λ z. absurd (omega (arith, z))) in
            let p : f.edge.parent ≡ node = same f.edge.parent node (first_true (f.edge.parent == node) (q (edge_units f.edge)) f.passes) in
            let levels : Some u.level ≡ Some j = sym u.parent ∙ ap (level_on path) p ∙ on_it in
            let level_is : u.level ≡ j = cc in
            (edge_units f.edge, sym (ap (slice_get ts) level_is) ∙ u.token, second_true (f.edge.parent == node) (q (edge_units f.edge)) f.passes)

        nowhere : ((token : List ℕ) → slice_get ts j ≡ Some token → q token ≡ true → ⊥) → (o : Option ℕ) → first_of (by_units q node) edges 1 ≡ o → level_of path o ≡ None
        nowhere never_so None e = refl
        nowhere never_so (Some t) e = on (level_on path t) refl
          where
            on : (o : Option ℕ) → level_on path t ≡ o → level_on path t ≡ None
            on None g = g
            on (Some k) g = let r = found t e k g in absurd (never_so r.0 r.1 r.2)

        hit : (token : List ℕ) → slice_get ts j ≡ Some token → q token ≡ true → level_of path (first_of (by_units q node) edges 1) ≡ Some (suc j)
        hit token g h =
            let d = down edges way node j token on_it g in
            let passes : by_units q node d.edge ≡ true = and_from (d.edge.parent == node) (q (edge_units d.edge)) (let x : (d.edge.parent == node) ≡ true = grind (arith, nat_tests, d.parent) in x) (ap q d.token ∙ h) in
            ap (level_of path)
            (first_hit (by_units q node) edges 1 d.number d.edge d.is passes
            (λ i a l a_is. false_from_ne_true (by_units q node a)
            (λ t. apart i d.number a d.edge l a_is d.is (same a.parent node (first_true (a.parent == node) (q (edge_units a)) t) ∙ sym d.parent)
            (one (edge_units a) (edge_units d.edge) (second_true (a.parent == node) (q (edge_units a)) t) (ap q d.token ∙ h)))))
            ∙ ap (level_on path) (let z : 1 + d.number ≡ suc d.number = omega arith in z)
            ∙ d.level

        by : (token : List ℕ) → slice_get ts j ≡ Some token → (b : Bool) → q token ≡ b → level_of path (first_of (by_units q node) edges 1) ≡ one_deeper b j
        by token g true h = hit token g h
        by token g false h =
            nowhere (λ other e t. let same_token : Some token ≡ Some other = sym g ∙ e in let s : token ≡ other = cc in let clash : true ≡ false = sym t ∙ sym (ap q s) ∙ h in absurd (cc)) _ refl

        pick : (o : Option (List ℕ)) → slice_get ts j ≡ o → level_of path (first_of (by_units q node) edges 1) ≡ one_deeper (by_token q o) j
        pick None g = nowhere (λ other e t. let clash : None ≡ Some other = sym g ∙ e in absurd (cc)) _ refl
        pick (Some token) g = by token g (q token) refl

-- ---- what was met along a path

module _ (g : Met → Met) (again : g met.Again ≡ met.Again) where
  met_same : (all : List Met) (n : ℕ) → met_at (change g n all) n ≡ g (met_at all n)
  met_same [] n = sym again
  met_same (m ∷ all) zero = refl
  met_same (m ∷ all) (suc n) = met_same all n

  met_other : (all : List Met) (t n : ℕ) → (t ≡ n → ⊥) → met_at (change g t all) n ≡ met_at all n
  met_other [] t n h = refl
  met_other (m ∷ all) zero zero h = absurd (h refl)
  met_other (m ∷ all) zero (suc n) h = refl
  met_other (m ∷ all) (suc t) zero h = refl
  met_other (m ∷ all) (suc t) (suc n) h = met_other all t n (λ e. h (ap suc e))

  -- nothing is seen of what changes off the path
  pub change_off : (path : List ℕ) (t : ℕ) (all : List Met) → level_on path t ≡ None → map (met_at (change g t all)) path ≡ map (met_at all) path
  change_off [] t all h = refl
  change_off (n ∷ path) t all h =
      let a = absent n t path h in
      ap (λ (m : Met). m ∷ map (met_at (change g t all)) path) (met_other all t n (λ e. a.other (sym e)))
      ∙ ap (λ (ms : List Met). met_at all n ∷ ms) (change_off path t all a.rest)

  pub change_on : (edges : List Edge) {n : ℕ} {ts : List (List ℕ)} {path : List ℕ} → IsWay edges n ts path → (t j : ℕ) (all : List Met) → level_on path t ≡ Some j
      → change g j (map (met_at all) path) ≡ map (met_at (change g t all)) path
  change_on edges {n = n} stops t j all h = elim (stands n t [] j h) [ here e z ↦ only e z | later o k f s ↦ absurd (cc) ]
    where
      only : n ≡ t → j ≡ 0 → change g j (met_at all n ∷ []) ≡ met_at (change g t all) n ∷ []
      only e z =
          ap (λ (i : ℕ). change g i (met_at all n ∷ [])) z
          ∙ ap (λ (m : Met). m ∷ []) (sym (met_same all n) ∙ ap (λ (i : ℕ). met_at (change g i all) n) e)
  change_on edges {n = n} (goes {c = c} {path = path} e is parent units le way) t j all h = elim (stands n t path j h) [ here q z ↦ first q z | later o k f s ↦ on o k s (change_on edges way t k all f) ]
    where
      gone : n ≡ t → (o : Option ℕ) → level_on path t ≡ o → level_on path t ≡ None
      gone q None f = f
      gone q (Some k) f = let b = low edges way t k f in absurd (omega (arith, b, le, q))

      first : n ≡ t → j ≡ 0 → change g j (met_at all n ∷ map (met_at all) path) ≡ met_at (change g t all) n ∷ map (met_at (change g t all)) path
      first q z =
          ap (λ (i : ℕ). change g i (met_at all n ∷ map (met_at all) path)) z
          ∙ ap (λ (m : Met). m ∷ map (met_at all) path) (sym (met_same all n) ∙ ap (λ (i : ℕ). met_at (change g i all) n) q)
          ∙ ap (λ (ms : List Met). met_at (change g t all) n ∷ ms) (sym (change_off path t all (gone q (level_on path t) refl)))

      on : (n ≡ t → ⊥) → (k : ℕ) → j ≡ suc k → change g k (map (met_at all) path) ≡ map (met_at (change g t all)) path → change g j (met_at all n ∷ map (met_at all) path) ≡ met_at (change g t all) n ∷ map (met_at (change g t all)) path
      on o k s rec =
          ap (λ (i : ℕ). change g i (met_at all n ∷ map (met_at all) path)) s
          ∙ ap (λ (ms : List Met). met_at all n ∷ ms) rec
          ∙ ap (λ (m : Met). m ∷ map (met_at (change g t all)) path) (sym (met_other all t n (λ e. o (sym e))))
