-- One level of a trie after another.
use Rattle.std.proofs.Common.{◌≡◌, ℕ, zero, suc, ◌+◌, ◌-◌, ◌<◌, ◌≤◌, List, [], ◌∷◌, ◌++◌, length, drop, Bool, true, false, cond, Option, None, Some, refl, sym, ap, subst, ◌∙◌, append_assoc, append-nil, arith, get_or, drop-cons, inl, inr, ◌⊎◌}
use Rattle.std.specs.Prelude.{◌==◌, nat_lt, slice_get, All}
use Rattle.std.specs.List.{Contains}
use Rattle.std.specs.List.Sorted.{IsPermutation, IsSortedBy}
use Rattle.std.specs.Ordering.{nat_cmp, is_eq, is_lt, ordering_reverse}
use Rattle.std.specs.declared.cmp.Ordering.{Ordering}
use Rattle.std.specs.declared.cmp.Ordering.TheVariants.{Less, Equal, Greater}
use Rattle.std.specs.Cmp.Lexicographic.{slice_cmp, nat_list_cmp_total}
use Rattle.std.proofs.lemmas.Bool.Decides.{nat_tests}
use Rattle.std.proofs.lemmas.List.{get_or_default, length-append, length-drop}
use Rattle.std.proofs.lemmas.List.Sums.{sum_by-append, sum_by-cons}
use Rattle.std.proofs.lemmas.List.Elements.{All-append, All-cons, All-nil, Contains-append_left, Contains-push}
use Rattle.std.proofs.lemmas.List.Sorted.{All-permutation, Contains-permutation, ranks_by, sorted_far}
use Rattle.jx_index.specs.Pointers.{HasSlash, tokens}
use Rattle.jx_index.specs.declared.trie.Edge.{Edge}
use Rattle.jx_index.specs.declared.trie_build.Part.{Part}
use Rattle.jx_index.specs.inside.Growing.{added, is_same, part_before, total, weight, GoesOn, IsCovered, IsLevel, IsNext, IsPartFrom, IsSure}
use Rattle.jx_index.specs.inside.Trie.{edge_key, edge_units, is_before, place_of, HasWay, IsEdgeAt, IsTrie, IsWay, stops, goes}
use Rattle.jx_index.proofs.Lookups.{before_parent, here_at, there, Here}
use Rattle.jx_index.proofs.NameKeys.{same_units}
use Rattle.jx_index.proofs.Tests.{less_of, same}
use Rattle.jx_index.proofs.TokenSteps.{tokens_end}

-- ---- edges that are added at the end

front : (xs ys : List Edge) (c : ℕ) (e : Edge) → slice_get xs c ≡ Some e → slice_get (xs ++ ys) c ≡ Some e
front [] ys c e h = absurd (cc)
front (x ∷ xs) ys zero e h = h
front (x ∷ xs) ys (suc c) e h = front xs ys c e h

front_of : (xs ys : List Edge) (c : ℕ) (e : Edge) → c < length xs → slice_get (xs ++ ys) c ≡ Some e → slice_get xs c ≡ Some e
front_of [] ys c e l h = absurd (omega (arith, l))
front_of (x ∷ xs) ys zero e l h = h
front_of (x ∷ xs) ys (suc c) e l h = front_of xs ys c e (omega (arith, l)) h

end_of : (xs : List Edge) (y : Edge) → slice_get (xs ++ y ∷ []) (length xs) ≡ Some y
end_of [] y = refl
end_of (x ∷ xs) y = end_of xs y

-- ---- what stays where edges are added

sure_more : (edges more now : List Edge) (ptr : List ℕ) → now ≡ edges ++ more → IsSure edges ptr → IsSure now ptr
sure_more edges more now ptr e h = λ later. subst (λ (es : List Edge). HasWay es ptr) (sym (append_assoc edges more later) ∙ ap (λ (es : List Edge). es ++ later) (sym e)) (h (more ++ later))

goes_more : (edges more now : List Edge) (p : Part) (ptr : List ℕ) → now ≡ edges ++ more → GoesOn edges p ptr → GoesOn now p ptr
goes_more edges more now p ptr e h = λ later path way.
    let s : now ++ later ≡ edges ++ (more ++ later) = ap (λ (es : List Edge). es ++ later) e ∙ append_assoc edges more later in
    subst (λ (es : List Edge). HasWay es ptr) (sym s)
    (h (more ++ later) path (subst (λ (es : List Edge). IsWay es p.edge.parent (edge_units p.edge ∷ tokens p.rest.now) path) s way))

-- ---- one level

pub record Behind (old edges : List Edge) (q : Part) : Type 0 where
  pub known : q.edge.parent ≤ length edges
  pub placed : q.edge.place ≡ place_of (edge_units q.edge)
  pub slash : HasSlash q.rest.now
  pub after : length old < q.edge.parent

pub record Ahead (edges : List Edge) (parts : List Part) (i : ℕ) (ptr : List ℕ) : Type 0 where
  pub number : ℕ
  pub part : Part
  pub from : i ≤ number
  pub low : number < length parts
  pub is : get_or parts number part ≡ part
  pub goes_on : GoesOn edges part ptr

abbrev pub Cover : List Edge → List Part → ℕ → List Part → List ℕ → Type 0
Cover edges parts i later ptr = IsCovered edges later ptr ⊎ Ahead edges parts i ptr

pub record Growing (pointers : List (List ℕ)) (old edges : List Edge) (parts : List Part) (i : ℕ) (later : List Part) : Type 0 where
  pub trie : IsTrie edges
  pub size : length old ≤ length edges
  pub low : (k : ℕ) (e : Edge) → slice_get edges k ≡ Some e → e.parent ≤ length old
  pub apart : (k : ℕ) (e : Edge) → k < length old → slice_get edges k ≡ Some e → (j : ℕ) (d : Part) → j < length parts → e.parent < (get_or parts j d).edge.parent
  pub last : (x : Edge) → slice_get edges (length edges - 1) ≡ Some x → (j : ℕ) (d : Part) → i ≤ j → j < length parts → is_before (get_or parts j d).edge x ≡ false
  pub behind : All (Behind old edges) later
  pub covered : All (Cover edges parts i later) pointers

module _ (pointers : List (List ℕ)) (old : List Edge) (parts : List Part) where
  pub grow_start : (later : List Part) → later ≡ [] → IsLevel pointers old parts → Growing pointers old old parts 0 later
  grow_start later none h = record {
    trie = h.trie;
    size = omega arith;
    low = λ k e is. let a = (h.trie k).parent_earlier e is in let b = there old k e is in omega (arith, a, b);
    apart = λ k e l is j d low. (h.nexts j d low).above k e is;
    last = λ x is j d le low.
        let p = (get_or parts j d).edge in
        let above = (h.nexts j d low).above (length old - 1) x is in
        let t : nat_lt p.parent x.parent ≡ false = grind (arith, nat_tests, above) in
        sym (before_parent p.parent p.place x.parent x.place (edge_units p) (edge_units x) false (sym t) (λ q. absurd (omega (arith, q, above))));
    behind = subst (All (Behind old old)) (sym none) (All-nil (Behind old old));
    covered = λ k d low. cover (slice_or k d) (h.covered k d low);
  }
    where
      slice_or : ℕ → List ℕ → List ℕ
      slice_or k d = get_or pointers k d

      cover : (ptr : List ℕ) → IsCovered old parts ptr → Cover old parts 0 later ptr
      cover ptr (inl s) = inl (inl s)
      cover ptr (inr p) = inr (record { number = p.among.0; part = p.part; from = omega arith; low = p.among.1; is = p.among.2; goes_on = p.goes_on })

  pub grow_end : (edges : List Edge) (i : ℕ) (later : List Part) → length parts ≤ i → Growing pointers old edges parts i later → IsLevel pointers edges later
  grow_end edges i later past h = record {
    trie = h.trie;
    nexts = λ j d low.
        let b = h.behind j d low in
        record {
          known = b.known;
          placed = b.placed;
          slash = b.slash;
          above = λ k e is. let a = h.low k e is in let c = b.after in omega (arith, a, c);
        };
    covered = λ k d low. cover (get_or pointers k d) (h.covered k d low);
  }
    where
      cover : (ptr : List ℕ) → Cover edges parts i later ptr → IsCovered edges later ptr
      cover ptr (inl c) = c
      cover ptr (inr a) = let f = a.from in let l = a.low in absurd (omega (arith, f, l, past))

-- ---- one part

pub record Put (old edges now : List Edge) (p : Edge) : Type 0 where
  pub trie : IsTrie now
  pub more : List Edge
  pub is : now ≡ edges ++ more
  pub size : length edges ≤ length now
  pub low : (k : ℕ) (e : Edge) → slice_get now k ≡ Some e → e.parent ≤ length old
  pub number : ℕ
  pub edge : Edge
  pub at : slice_get now number ≡ Some edge
  pub end : suc number ≡ length now
  pub key : edge_key edge ≡ edge_key p
  pub after : length old < length now

below_eq : (o : Ordering) → is_lt (ordering_reverse o) ≡ false → is_eq o ≡ false → is_lt o ≡ true
below_eq Less h g = refl
below_eq Equal h g = absurd (cc)
below_eq Greater h g = absurd (cc)

head_of : (x y : ℕ) (xs ys : List ℕ) → x ∷ xs ≡ y ∷ ys → x ≡ y
head_of x y xs ys h = cc

third_of : (x y z w : ℕ) (xs ys : List ℕ) → x ∷ y ∷ xs ≡ z ∷ w ∷ ys → xs ≡ ys
third_of x y z w xs ys h = cc

module _ (pointers : List (List ℕ)) (old edges : List Edge) (parts : List Part) (i : ℕ) (later : List Part) (h : Growing pointers old edges parts i later) (d : Part) (low : i < length parts)
    (next : IsNext old (get_or parts i d)) where
  abbrev part : Part
  part = get_or parts i d

  pub put : (now : List Edge) → now ≡ added edges part.edge → Put old edges now part.edge
  put now e = pick (slice_get edges (length edges - 1)) refl (is_same (slice_get edges (length edges - 1)) part.edge) refl
    where
      -- the last edge stands before it
      pushed : is_same (slice_get edges (length edges - 1)) part.edge ≡ false → now ≡ edges ++ part.edge ∷ [] → Put old edges now part.edge
      pushed apart g = subst (λ (es : List Edge). Put old edges es part.edge) (sym g) (record {
        trie = λ k. edge k (nat_lt k (length edges)) refl;
        more = part.edge ∷ [];
        is = refl;
        size = omega (arith, longer);
        low = λ k x is. lows k x is (nat_lt k (length edges)) refl;
        number = length edges;
        edge = part.edge;
        at = end_of edges part.edge;
        end = omega (arith, longer);
        key = refl;
        after = let s = h.size in omega (arith, s, longer);
      })
        where
          longer : length (edges ++ part.edge ∷ []) ≡ length edges + 1
          longer = length-append edges (part.edge ∷ [])

          known : part.edge.parent ≤ length old
          known = next.known

          at_end : (k : ℕ) (x : Edge) → slice_get (edges ++ part.edge ∷ []) k ≡ Some x → nat_lt k (length edges) ≡ false → (k ≡ length edges) × (x ≡ part.edge)
          at_end k x is f =
              let l = there (edges ++ part.edge ∷ []) k x is in
              let ge : length edges ≤ k = grind (arith, nat_tests) in
              let s : k ≡ length edges = omega (arith, l, longer, ge) in
              let o : Some part.edge ≡ Some x = sym (end_of edges part.edge) ∙ ap (slice_get (edges ++ part.edge ∷ [])) (sym s) ∙ is in
              let q : part.edge ≡ x = cc in
              (s, sym q)

          inside : (k : ℕ) (x : Edge) → slice_get (edges ++ part.edge ∷ []) k ≡ Some x → nat_lt k (length edges) ≡ true → slice_get edges k ≡ Some x
          inside k x is t = front_of edges (part.edge ∷ []) k x (let l : k < length edges = grind (arith, nat_tests) in l) is

          lows : (k : ℕ) (x : Edge) → slice_get (edges ++ part.edge ∷ []) k ≡ Some x → (b : Bool) → nat_lt k (length edges) ≡ b → x.parent ≤ length old
          lows k x is true t = h.low k x (inside k x is t)
          lows k x is false t = let s = at_end k x is t in subst (λ (y : Edge). y.parent ≤ length old) (sym s.1) known

          before : (j : ℕ) (a : Edge) → slice_get edges j ≡ Some a → is_before a part.edge ≡ true
          before j a a_is = by (here_at edges (length edges - 1) (let l = there edges j a a_is in omega (arith, l))) (j == length edges - 1) refl
            where
              by : (x : Here edges (length edges - 1)) → (b : Bool) → (j == length edges - 1) ≡ b → is_before a part.edge ≡ true
              by x b q = chain b q
                where
                  order : Ordering
                  order = slice_cmp nat_cmp (edge_key x.edge) (edge_key part.edge)

                  last_below : is_before x.edge part.edge ≡ true
                  last_below =
                      below_eq order (ap is_lt (sym (nat_list_cmp_total.antisymm (edge_key part.edge) (edge_key x.edge))) ∙ h.last x.edge x.is i d (omega arith) low)
                      (sym (ap (λ (o : Option Edge). is_same o part.edge) x.is) ∙ apart)

                  chain : (b : Bool) → (j == length edges - 1) ≡ b → is_before a part.edge ≡ true
                  chain true t =
                      let o : Some a ≡ Some x.edge = sym a_is ∙ ap (slice_get edges) (same j (length edges - 1) t) ∙ x.is in
                      let s : a ≡ x.edge = cc in
                      subst (λ (y : Edge). is_before y part.edge ≡ true) (sym s) last_below
                  chain false t =
                      let l = there edges j a a_is in
                      let k : j < length edges - 1 = grind (arith, nat_tests, l) in
                      ap is_lt
                      (nat_list_cmp_total.trans (edge_key a) (edge_key x.edge) (edge_key part.edge)
                      (less_of (slice_cmp nat_cmp (edge_key a) (edge_key x.edge)) ((h.trie (length edges - 1)).rises j a x.edge k a_is x.is))
                      (less_of order last_below))

          edge : (k : ℕ) → (b : Bool) → nat_lt k (length edges) ≡ b → IsEdgeAt (edges ++ part.edge ∷ []) k
          edge k true t = record {
            place_is = λ x is. (h.trie k).place_is x (inside k x is t);
            parent_earlier = λ x is. (h.trie k).parent_earlier x (inside k x is t);
            rises = λ j a b l a_is b_is.
                let kl : k < length edges = grind (arith, nat_tests) in
                (h.trie k).rises j a b l (front_of edges (part.edge ∷ []) j a (omega (arith, l, kl)) a_is) (inside k b b_is t);
          }
          edge k false t = record {
            place_is = λ x is. let s = at_end k x is t in subst (λ (y : Edge). y.place ≡ place_of (edge_units y)) (sym s.1) next.placed;
            parent_earlier = λ x is. let s = at_end k x is t in let z = h.size in let n = s.0 in subst (λ (y : Edge). y.parent ≤ k) (sym s.1) (omega (arith, known, z, n));
            rises = λ j a b l a_is b_is.
                let s = at_end k b b_is t in
                let n = s.0 in
                subst (λ (y : Edge). is_before a y ≡ true) (sym s.1) (before j a (front_of edges (part.edge ∷ []) j a (omega (arith, l, n)) a_is));
          }

      -- it is the last edge
      kept : (x : Edge) → slice_get edges (length edges - 1) ≡ Some x → is_eq (slice_cmp nat_cmp (edge_key x) (edge_key part.edge)) ≡ true → now ≡ edges → Put old edges now part.edge
      kept x x_is q g = subst (λ (es : List Edge). Put old edges es part.edge) (sym g) (record {
        trie = h.trie;
        more = [];
        is = sym (append-nil edges);
        size = omega arith;
        low = h.low;
        number = length edges - 1;
        edge = x;
        at = x_is;
        end = omega (arith, some);
        key = keys;
        after = past (nat_lt (length old) (length edges)) refl;
      })
        where
          some : length edges - 1 < length edges
          some = there edges (length edges - 1) x x_is

          keys : edge_key x ≡ edge_key part.edge
          keys = same_units (edge_key x) (edge_key part.edge) q

          past : (b : Bool) → nat_lt (length old) (length edges) ≡ b → length old < length edges
          past true t = grind (arith, nat_tests)
          past false t =
              let s = h.size in
              let le : length edges ≤ length old = grind (arith, nat_tests) in
              let a = h.apart (length edges - 1) x (omega (arith, some, le)) x_is i d low in
              let b = head_of x.parent part.edge.parent (x.place ∷ edge_units x) (part.edge.place ∷ edge_units part.edge) keys in
              absurd (omega (arith, a, b))

      pick : (o : Option Edge) → slice_get edges (length edges - 1) ≡ o → (b : Bool) → is_same (slice_get edges (length edges - 1)) part.edge ≡ b → Put old edges now part.edge
      pick o q false t = pushed t (e ∙ ap (λ (c : Bool). cond c edges (edges ++ part.edge ∷ [])) t)
      pick None q true t = let f : false ≡ true = sym (ap (λ (y : Option Edge). is_same y part.edge) q) ∙ t in absurd (cc)
      pick (Some x) q true t = kept x q (sym (ap (λ (y : Option Edge). is_same y part.edge) q) ∙ t) (e ∙ ap (λ (c : Bool). cond c edges (edges ++ part.edge ∷ [])) t)

  module _ (now : List Edge) (p : Put old edges now part.edge) (rising : IsSortedBy part_before parts) where
    -- the way over the part's edge
    over : (later : List Edge) (path : List ℕ) → IsWay (now ++ later) (length now) (tokens part.rest.now) path
        → IsWay (now ++ later) part.edge.parent (edge_units part.edge ∷ tokens part.rest.now) (part.edge.parent ∷ path)
    over more path way =
        let parents = head_of p.edge.parent part.edge.parent (p.edge.place ∷ edge_units p.edge) (part.edge.place ∷ edge_units part.edge) p.key in
        let units = third_of p.edge.parent p.edge.place part.edge.parent part.edge.place (edge_units p.edge) (edge_units part.edge) p.key in
        let early = (p.trie p.number).parent_earlier p.edge p.at in
        goes p.edge (front now more p.number p.edge p.at) parents units (omega (arith, early, parents))
        (subst (λ (n : ℕ). IsWay (now ++ more) n (tokens part.rest.now) path) (sym p.end) way)

    rest_apart : (k : ℕ) (e : Edge) → k < length old → slice_get now k ≡ Some e → (j : ℕ) (x : Part) → j < length parts → e.parent < (get_or parts j x).edge.parent
    rest_apart k e l is j x in_range =
        let s = h.size in
        h.apart k e l (front_of edges p.more k e (omega (arith, l, s)) (ap (λ (es : List Edge). slice_get es k) (sym p.is) ∙ is)) j x in_range

    rest_last : (x : Edge) → slice_get now (length now - 1) ≡ Some x → (j : ℕ) (y : Part) → i + 1 ≤ j → j < length parts → is_before (get_or parts j y).edge x ≡ false
    rest_last x is j y le in_range =
        let n : length now - 1 ≡ p.number = (let e = p.end in omega (arith, e)) in
        let o : Some p.edge ≡ Some x = sym p.at ∙ ap (slice_get now) (sym n) ∙ is in
        let s : p.edge ≡ x = cc in
        let keys : edge_key x ≡ edge_key part.edge = ap edge_key (sym s) ∙ p.key in
        let far = sorted_far part_before (ranks_by nat_list_cmp_total (λ (q : Part). edge_key q.edge)) parts rising i j y (omega (arith, le)) in_range in
        let here : get_or parts i y ≡ part = get_or_default parts i y d low in
        ap (λ (k : List ℕ). is_lt (slice_cmp nat_cmp (edge_key (get_or parts j y).edge) k)) (keys ∙ ap (λ (q : Part). edge_key q.edge) (sym here)) ∙ far

    module _ (grown : List Part) (kept_all : (q : Part) → Contains later q → Contains grown q) (behind : All (Behind old now) grown)
        (here : (ptr : List ℕ) → GoesOn now part ptr → IsCovered now grown ptr) where
      cover : (ptr : List ℕ) → Cover edges parts i later ptr → Cover now parts (i + 1) grown ptr
      cover ptr (inl (inl s)) = inl (inl (sure_more edges p.more now ptr p.is s))
      cover ptr (inl (inr q)) = inl (inr (record { part = q.part; among = kept_all q.part q.among; goes_on = goes_more edges p.more now q.part ptr p.is q.goes_on }))
      cover ptr (inr a) = pick (a.number == i) refl
        where
          goes_now : GoesOn now a.part ptr
          goes_now = goes_more edges p.more now a.part ptr p.is a.goes_on

          pick : (b : Bool) → (a.number == i) ≡ b → Cover now parts (i + 1) grown ptr
          pick true t =
              let n = same a.number i t in
              let q : a.part ≡ part = sym a.is ∙ ap (λ (k : ℕ). get_or parts k a.part) n ∙ get_or_default parts i a.part d low in
              inl (here ptr (subst (λ (x : Part). GoesOn now x ptr) q goes_now))
          pick false t =
              let f = a.from in
              inr (record { number = a.number; part = a.part; from = (let l : i + 1 ≤ a.number = grind (arith, nat_tests, f) in l); low = a.low; is = a.is; goes_on = goes_now })

      grown_on : Growing pointers old now parts (i + 1) grown
      grown_on = record {
        trie = p.trie;
        size = (let s = h.size in let t = p.size in omega (arith, s, t));
        low = p.low;
        apart = rest_apart;
        last = rest_last;
        behind = behind;
        covered = λ k ptr l. cover (get_or pointers k ptr) (h.covered k ptr l);
      }

    behind_more : (q : Part) → Behind old edges q → Behind old now q
    behind_more q b = let s = p.size in let k = b.known in record { known = omega (arith, k, s); placed = b.placed; slash = b.slash; after = b.after }

    behind_all : All (Behind old now) later
    behind_all = λ k q l. behind_more (get_or later k q) (h.behind k q l)

    -- nothing is left of the part
    pub grow_stop : length part.rest.now ≤ 0 → Growing pointers old now parts (i + 1) later
    grow_stop none =
        grown_on later (λ q c. c) behind_all
        (λ ptr goes_on. inl (λ more. goes_on more (part.edge.parent ∷ (length now ∷ []))
        (over more (length now ∷ []) (subst (λ (ts : List (List ℕ)). IsWay (now ++ more) (length now) ts (length now ∷ [])) (sym (tokens_end part.rest.now none)) stops))))

    pub grow_push : (q : Part) (grown : List Part) → grown ≡ later ++ q ∷ [] → IsPartFrom (length now) part.rest.now q → Growing pointers old now parts (i + 1) grown
    grow_push q grown g f =
        subst (Growing pointers old now parts (i + 1)) (sym g)
        (grown_on (later ++ q ∷ []) (λ x c. Contains-append_left later (q ∷ []) x c)
        (All-append (Behind old now) later (q ∷ []) behind_all
        (All-cons (Behind old now) q [] (let a = p.after in let b = f.parent in record { known = omega (arith, b); placed = f.placed; slash = f.slash; after = omega (arith, a, b) }) (All-nil (Behind old now))))
        (λ ptr goes_on. inr (record {
          part = q;
          among = Contains-push later q;
          goes_on = λ more path way.
              goes_on more (part.edge.parent ∷ path)
              (over more path
              (subst (λ (ts : List (List ℕ)). IsWay (now ++ more) (length now) ts path) (sym f.tokens_are) (subst (λ (n : ℕ). IsWay (now ++ more) n (edge_units q.edge ∷ tokens q.rest.now) path) f.parent way)));
        })))

-- ---- how much is left

pub total_push : (xs : List Part) (q : Part) → total (xs ++ q ∷ []) ≡ total xs + weight q
total_push xs q = sum_by-append weight xs (q ∷ []) ∙ ap (λ (n : ℕ). total xs + n) (sum_by-cons weight q [] ∙ (let e : weight q + 0 ≡ weight q = omega arith in e))

pub total_drop : (parts : List Part) (i : ℕ) (d : Part) → i < length parts → total (drop i parts) ≡ weight (get_or parts i d) + total (drop (i + 1) parts)
total_drop parts i d low = ap total (drop-cons parts i d low) ∙ sum_by-cons weight (get_or parts i d) (drop (suc i) parts) ∙ ap (λ (n : ℕ). weight (get_or parts i d) + total (drop n parts)) (let e : suc i ≡ i + 1 = omega arith in e)

-- ---- in another order, and at the end

pub level_moved : (pointers : List (List ℕ)) (edges : List Edge) (parts moved : List Part) → IsPermutation parts moved → IsLevel pointers edges parts → IsLevel pointers edges moved
level_moved pointers edges parts moved m h = record {
  trie = h.trie;
  nexts = All-permutation (IsNext edges) parts moved m h.nexts;
  covered = λ k d low. by (get_or pointers k d) (h.covered k d low);
}
  where
    by : (ptr : List ℕ) → IsCovered edges parts ptr → IsCovered edges moved ptr
    by ptr (inl s) = inl s
    by ptr (inr q) = inr (record { part = q.part; among = Contains-permutation parts moved q.part m q.among; goes_on = q.goes_on })

pub level_done : (pointers : List (List ℕ)) (edges : List Edge) (parts : List Part) → length parts ≤ 0 → IsLevel pointers edges parts → All (λ (ptr : List ℕ). HasWay edges ptr) pointers
level_done pointers edges parts none h = λ k d low. by (get_or pointers k d) (h.covered k d low)
  where
    by : (ptr : List ℕ) → IsCovered edges parts ptr → HasWay edges ptr
    by ptr (inl s) = subst (λ (es : List Edge). HasWay es ptr) (append-nil edges) (s [])
    by ptr (inr q) = let l = q.among.1 in absurd (omega (arith, l, none))

-- ---- at the start

no_edges : IsTrie []
no_edges i = record { place_is = λ e is. absurd (cc); parent_earlier = λ e is. absurd (cc); rises = λ j a b l a_is b_is. absurd (cc) }

pub level_none : (parts : List Part) → parts ≡ [] → IsLevel [] [] parts
level_none parts none = record { trie = no_edges; nexts = subst (All (IsNext [])) (sym none) (All-nil (IsNext [])); covered = All-nil (IsCovered [] parts) }

module _ (pointers : List (List ℕ)) (parts : List Part) (h : IsLevel pointers [] parts) (ptr : List ℕ) where
  -- a pointer to the root
  pub level_root : length ptr ≤ 0 → IsLevel (pointers ++ ptr ∷ []) [] parts
  level_root none = record {
    trie = h.trie;
    nexts = h.nexts;
    covered =
        All-append (IsCovered [] parts) pointers (ptr ∷ []) h.covered
        (All-cons (IsCovered [] parts) ptr [] (inl (λ later. record { path = 0 ∷ []; way = subst (λ (ts : List (List ℕ)). IsWay later 0 ts (0 ∷ [])) (sym (tokens_end ptr none)) stops })) (All-nil (IsCovered [] parts)));
  }

  pub level_more : (q : Part) (grown : List Part) → grown ≡ parts ++ q ∷ [] → IsPartFrom 0 ptr q → IsLevel (pointers ++ ptr ∷ []) [] grown
  level_more q grown g f = subst (IsLevel (pointers ++ ptr ∷ []) []) (sym g) (record {
    trie = h.trie;
    nexts =
        All-append (IsNext []) parts (q ∷ []) h.nexts
        (All-cons (IsNext []) q [] (let a = f.parent in record { known = omega (arith, a); placed = f.placed; slash = f.slash; above = λ i e is. absurd (cc) }) (All-nil (IsNext [])));
    covered =
        All-append (IsCovered [] (parts ++ q ∷ [])) pointers (ptr ∷ []) (λ k d low. by (get_or pointers k d) (h.covered k d low))
        (All-cons (IsCovered [] (parts ++ q ∷ [])) ptr []
        (inr (record {
          part = q;
          among = Contains-push parts q;
          goes_on = λ later path way.
              record {
                path = path;
                way =
                    subst (λ (ts : List (List ℕ)). IsWay later 0 ts path) (sym f.tokens_are)
                    (subst (λ (n : ℕ). IsWay later n (edge_units q.edge ∷ tokens q.rest.now) path) f.parent way);
              };
        })) (All-nil (IsCovered [] (parts ++ q ∷ []))));
  })
    where
      by : (p : List ℕ) → IsCovered [] parts p → IsCovered [] (parts ++ q ∷ []) p
      by p (inl s) = inl s
      by p (inr x) = inr (record { part = x.part; among = Contains-append_left parts (q ∷ []) x.part x.among; goes_on = x.goes_on })

pub fewer_more : (parts : List Part) (i n : ℕ) (d : Part) (later grown : List Part) (q : Part) → i < length parts → IsPartFrom n (get_or parts i d).rest.now q → grown ≡ later ++ q ∷ []
    → total later + total (drop i parts) + i ≤ total parts → total grown + total (drop (i + 1) parts) + (i + 1) ≤ total parts
fewer_more parts i n d later grown q low f g before =
    let this = total_drop parts i d low in
    let more : total grown ≡ total later + weight q = ap total g ∙ total_push later q in
    let short = f.shorter in
    omega (arith, before, this, more, short)

pub fewer_same : (parts : List Part) (i : ℕ) (later grown : List Part) → i < length parts → grown ≡ later → total later + total (drop i parts) + i ≤ total parts
    → total grown + total (drop (i + 1) parts) + (i + 1) ≤ total parts
fewer_same [] i later grown low g before = absurd (omega (arith, low))
fewer_same (p ∷ parts) i later grown low g before =
    let this = total_drop (p ∷ parts) i p low in
    let more : total grown ≡ total later = ap total g in
    omega (arith, before, this, more)

pub total_none : (parts : List Part) → parts ≡ [] → total parts ≡ 0
total_none parts none = ap total none

pub shorter_by : (rest bytes later : List ℕ) (n : ℕ) → 0 < length rest → bytes ≡ drop 1 rest → later ≡ drop n bytes → length later < length rest
shorter_by rest bytes later n some b l =
    let x = length-drop 1 rest in
    let y = length-drop n bytes in
    let p = ap (λ (u : List ℕ). length u) b in
    let q = ap (λ (u : List ℕ). length u) l in
    omega (arith, some, x, y, p, q)
