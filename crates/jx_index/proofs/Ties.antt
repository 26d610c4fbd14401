-- Among members by rising names, those that are not the first of their units are those that have the units of the one before them.
use Rattle.std.proofs.Common.{◌≡◌, ℕ, zero, suc, ◌<◌, ◌≤◌, ◌⊎◌, List, [], ◌∷◌, length, drop, get_or, Bool, true, false, cond, Option, None, Some, refl, sym, ap, subst, ◌∙◌, inl, inr, arith, drop-cons}
use Rattle.std.specs.Prelude.{filter}
use Rattle.std.specs.List.Sorted.{IsNonDecreasingBy, IsSortedBy, IsStableBy}
use Rattle.std.specs.declared.cmp.Ordering.{Ordering}
use Rattle.std.specs.declared.cmp.Ordering.TheVariants.{Less, Equal, Greater}
use Rattle.std.specs.Ordering.{nat_cmp, is_eq, ordering_index, ordering_reverse}
use Rattle.std.specs.Cmp.Lexicographic.{slice_cmp, nat_list_cmp_total}
use Rattle.std.proofs.lemmas.List.Sorted.{searchable_from_sorted}
use Rattle.std.proofs.lemmas.Option.{slice_get_past}
use Rattle.jx_lex.specs.declared.kind.Kind.TheVariants as kind
use Rattle.jx_index.specs.declared.row.Row.{Row}
use Rattle.jx_index.specs.Names.{is_below, name_units}
use Rattle.jx_index.specs.Nodes.{IsObjectAt, kind_at, kind_in, name_at, child_numbers}
use Rattle.jx_index.specs.Repeats.{IsAmong, has_units, start_in, IsRepeated, IsRepeatIn, IsRepeat, IsLeast}
use Rattle.jx_index.specs.inside.Ties.{earlier_of, tie_start, IsTieBehind, IsTie, IsRepeatOf, IsRepeatFrom}
use Rattle.jx_index.proofs.Halving.{eq_at_one}
use Rattle.jx_index.proofs.Leasts.{least_same, least_one, least_none, least_either, earlier_assoc, earlier_none}
use Rattle.jx_index.proofs.Orders.{falls, equal_kept}

-- ---- units

equal_of : (o : Ordering) → is_eq o ≡ true → o ≡ Equal
equal_of Less h = absurd (cc)
equal_of Equal h = refl
equal_of Greater h = absurd (cc)

own_reverse : (o : Ordering) → o ≡ ordering_reverse o → is_eq o ≡ true
own_reverse Less h = absurd (cc)
own_reverse Equal h = refl
own_reverse Greater h = absurd (cc)

same_units : (u : List ℕ) → is_eq (slice_cmp nat_cmp u u) ≡ true
same_units u = own_reverse (slice_cmp nat_cmp u u) (nat_list_cmp_total.antisymm u u)

-- two that equal a third equal each other
both_equal : (x y u : List ℕ) → is_eq (slice_cmp nat_cmp x u) ≡ true → is_eq (slice_cmp nat_cmp y u) ≡ true → is_eq (slice_cmp nat_cmp x y) ≡ true
both_equal x y u h k =
    ap is_eq
    (nat_list_cmp_total.congr x u y (equal_of (slice_cmp nat_cmp x u) h)
    ∙ nat_list_cmp_total.antisymm u y
    ∙ ap ordering_reverse (equal_of (slice_cmp nat_cmp y u) k))

-- ---- places

-- what is found, with the least of what is left, is the least of all
abbrev pub Leads : (ℕ → Type 0) → (ℕ → Type 0) → Option ℕ → Type 0
Leads All Left first = (r : Option ℕ) → IsLeast Left r → IsLeast All (earlier_of first r)

pub at_first : (P : ℕ → Type 0) → Leads P P None
at_first P r h = h

pub at_last : (All Left : ℕ → Type 0) (first : Option ℕ) → Leads All Left first → ((n : ℕ) → Left n → ⊥) → IsLeast All first
at_last All Left first h none = subst (IsLeast All) (earlier_none first) (h None (least_none Left none))

leads_on : (All Left Next : ℕ → Type 0) (Here : ℕ → Type 0) (first t : Option ℕ) → IsLeast Here t → ((n : ℕ) → Here n ⊎ Next n → Left n) → ((n : ℕ) → Left n → Here n ⊎ Next n)
    → Leads All Left first → Leads All Next (earlier_of first t)
leads_on All Left Next Here first t here to of h r next =
    subst (IsLeast All) (sym (earlier_assoc first t r))
    (h (earlier_of t r) (least_same (λ n. Here n ⊎ Next n) Left to of (earlier_of t r) (least_either Here Next t r here next)))

module _ {A : Type 0} (spare : A) where
  index_of : (x : A) (ys : List A) → IsAmong x ys → (j : ℕ) × (j < length ys) × (get_or ys j spare ≡ x)
  index_of x [] h = absurd h
  index_of x (y ∷ ys) (inl e) = (0, omega arith, e)
  index_of x (y ∷ ys) (inr h) = let i = index_of x ys h in let low = i.1 in (suc i.0, omega (arith, low), i.2)

  among_drop : (x : A) (ys : List A) → IsAmong x (drop 1 ys) → IsAmong x ys
  among_drop x [] h = absurd h
  among_drop x (y ∷ ys) h = inr h

module _ {A : Type 0} (spare : A) (units_of : A → List ℕ) (start_of : A → Option ℕ) where
  abbrev rank : List ℕ → A → ℕ
  rank units x = ordering_index (slice_cmp nat_cmp (units_of x) units)

  -- ---- each tie is a repeat

  passing : (p : A → Bool) (a b : A) (names : List A) → p a ≡ true → p b ≡ true → IsAmong b (drop 1 (filter p (a ∷ b ∷ names)))
  passing p a b names pa pb =
      subst (λ (c : Bool). IsAmong b (drop 1 (cond c (a ∷ filter p (b ∷ names)) (filter p (b ∷ names))))) (sym pa)
      (subst (λ (c : Bool). IsAmong b (cond c (b ∷ filter p names) (filter p names))) (sym pb) (inl refl))

  tie_at : (a b : A) (at : ℕ) (c : Bool) → is_eq (slice_cmp nat_cmp (units_of a) (units_of b)) ≡ c
      → cond c (start_of b) None ≡ Some at → (c ≡ true) × (start_of b ≡ Some at)
  tie_at a b at true e h = (refl, h)
  tie_at a b at false e h = absurd (cc)

  among_more : (p : A → Bool) (x a : A) (names : List A) → IsAmong x (drop 1 (filter p names)) → IsAmong x (drop 1 (filter p (a ∷ names)))
  among_more p x a names h = pick (p a)
    where
      pick : (c : Bool) → IsAmong x (drop 1 (cond c (a ∷ filter p names) (filter p names)))
      pick true = among_drop spare x (filter p names) h
      pick false = h

  tie_repeats : (a : A) (names : List A) (at : ℕ) → IsTieBehind units_of start_of a names at → IsRepeated units_of start_of (a ∷ names) at
  tie_repeats a [] at h = absurd h
  tie_repeats a (b ∷ names) at (inl e) =
      let q = is_eq (slice_cmp nat_cmp (units_of a) (units_of b)) in
      let t = tie_at a b at q refl e in
      record { units = units_of b; name = b; behind = passing (has_units units_of (units_of b)) a b names t.0 (same_units (units_of b)); starts = t.1 }
  tie_repeats a (b ∷ names) at (inr h) =
      let r = tie_repeats b names at h in
      record { units = r.units; name = r.name; behind = among_more (has_units units_of r.units) r.name a (b ∷ names) r.behind; starts = r.starts }

  -- ---- each repeat is a tie

  tail_rises : (f : A → ℕ) (a : A) (names : List A) → IsNonDecreasingBy f (a ∷ names) → IsNonDecreasingBy f names
  tail_rises f a names up = λ i j d le lt. up (suc i) (suc j) d (omega (arith, le)) (omega (arith, lt))

  -- what passes has rank 1
  rank_one : (units : List ℕ) (y : A) → has_units units_of units y ≡ true → rank units y ≡ 1
  rank_one units y h = ap (λ (o : Ordering). ordering_index o) (equal_of (slice_cmp nat_cmp (units_of y) units) h)

  filter_passes : (p : A → Bool) (x : A) (names : List A) → IsAmong x (filter p names) → (p x ≡ true) × IsAmong x names
  filter_passes p x [] h = absurd h
  filter_passes p x (b ∷ names) h = pick (p b) refl h (λ k. filter_passes p x names k)
    where
      pick : (c : Bool) → p b ≡ c → IsAmong x (cond c (b ∷ filter p names) (filter p names)) → (IsAmong x (filter p names) → (p x ≡ true) × IsAmong x names)
          → (p x ≡ true) × IsAmong x (b ∷ names)
      pick true e (inl same) rec = (ap p (sym same) ∙ e, inl same)
      pick true e (inr k) rec = ((rec k).0, inr (rec k).1)
      pick false e k rec = ((rec k).0, inr (rec k).1)

  -- between two of rank 1 stand only such
  passes_between : (units : List ℕ) (a b : A) (names : List A) (x : A) → IsNonDecreasingBy (rank units) (a ∷ b ∷ names)
      → has_units units_of units a ≡ true → has_units units_of units x ≡ true → IsAmong x names → has_units units_of units b ≡ true
  passes_between units a b names x up pa px h =
      let f = rank units in
      let i = index_of spare x names h in
      let low = i.1 in
      let first : f a ≤ f b = up 0 1 spare (omega arith) (omega arith) in
      let last : f b ≤ f (get_or names i.0 spare) = up 1 (suc (suc i.0)) spare (omega arith) (omega (arith, low)) in
      let one : f a ≡ 1 = rank_one units a pa in
      let other : f (get_or names i.0 spare) ≡ 1 = ap f i.2 ∙ rank_one units x px in
      let same : f b ≡ 1 = omega (arith, first, last, one, other) in
      eq_at_one (slice_cmp nat_cmp (units_of b) units) same

  tie_here : (units : List ℕ) (a b x : A) (at : ℕ) → has_units units_of units a ≡ true → has_units units_of units b ≡ true → b ≡ x → start_of x ≡ Some at
      → tie_start units_of start_of a b ≡ Some at
  tie_here units a b x at pa pb same starts =
      let q : is_eq (slice_cmp nat_cmp (units_of a) (units_of b)) ≡ true = both_equal (units_of a) (units_of b) units pa pb in
      ap (λ (c : Bool). cond c (start_of b) None) q ∙ ap (λ (n : A). start_of n) same ∙ starts

  behind_first : (units : List ℕ) (a : A) (names : List A) (x : A) (at : ℕ) → IsNonDecreasingBy (rank units) (a ∷ names)
      → has_units units_of units a ≡ true → IsAmong x (filter (has_units units_of units) names) → start_of x ≡ Some at → IsTieBehind units_of start_of a names at
  behind_first units a [] x at up pa h starts = absurd h
  behind_first units a (b ∷ names) x at up pa h starts =
      pick (has_units units_of units b) refl h (λ pb k. behind_first units b names x at (tail_rises (rank units) a (b ∷ names) up) pb k starts)
    where
      pick : (c : Bool) → has_units units_of units b ≡ c → IsAmong x (cond c (b ∷ filter (has_units units_of units) names) (filter (has_units units_of units) names))
          → (has_units units_of units b ≡ true → IsAmong x (filter (has_units units_of units) names) → IsTieBehind units_of start_of b names at) → IsTieBehind units_of start_of a (b ∷ names) at
      pick true e (inl same) rec = inl (tie_here units a b x at pa e same starts)
      pick true e (inr k) rec = inr (rec e k)
      pick false e k rec =
          let f = filter_passes (has_units units_of units) x names k in
          let there = passes_between units a b names x up pa f.0 f.1 in
          absurd (cc (e, there))

  repeats_tie : (units : List ℕ) (a : A) (names : List A) (x : A) (at : ℕ) → IsNonDecreasingBy (rank units) (a ∷ names)
      → IsAmong x (drop 1 (filter (has_units units_of units) (a ∷ names))) → start_of x ≡ Some at → IsTieBehind units_of start_of a names at
  repeats_tie units a [] x at up h starts = pick (has_units units_of units a) h
    where
      pick : (c : Bool) → IsAmong x (drop 1 (cond c (a ∷ []) [])) → ⊥
      pick true k = k
      pick false k = k
  repeats_tie units a (b ∷ names) x at up h starts =
      pick (has_units units_of units a) refl h (λ k. repeats_tie units b names x at (tail_rises (rank units) a (b ∷ names) up) k starts)
    where
      pick : (c : Bool) → has_units units_of units a ≡ c
          → IsAmong x (drop 1 (cond c (a ∷ filter (has_units units_of units) (b ∷ names)) (filter (has_units units_of units) (b ∷ names))))
          → (IsAmong x (drop 1 (filter (has_units units_of units) (b ∷ names))) → IsTieBehind units_of start_of b names at) → IsTieBehind units_of start_of a (b ∷ names) at
      pick true e k rec = behind_first units a (b ∷ names) x at up e k starts
      pick false e k rec = inr (rec k)

  -- ---- over a whole list

  ties_are : (names : List A) → IsSortedBy (falls units_of) names → (at : ℕ) → IsRepeated units_of start_of names at → IsTie units_of start_of names at
  ties_are [] up at r = absurd (r.behind)
  ties_are (a ∷ names) up at r =
      repeats_tie r.units a names r.name at (searchable_from_sorted nat_list_cmp_total units_of (a ∷ names) r.units up) r.behind r.starts

  repeats_are : (names : List A) (at : ℕ) → IsTie units_of start_of names at → IsRepeated units_of start_of names at
  repeats_are [] at h = absurd h
  repeats_are (a ∷ names) at h = tie_repeats a names at h

  pub first_of_ties : (names : List A) (r : Option ℕ) → IsSortedBy (falls units_of) names → IsLeast (IsTie units_of start_of names) r → IsLeast (IsRepeated units_of start_of names) r
  first_of_ties names r up h = least_same (IsTie units_of start_of names) (IsRepeated units_of start_of names) (repeats_are names) (ties_are names up) r h

  -- a stable order keeps which name is the first of its units
  moved : (xs ys : List A) → ((units : List ℕ) → filter (has_units units_of units) xs ≡ filter (has_units units_of units) ys) → (at : ℕ) → IsRepeated units_of start_of xs at → IsRepeated units_of start_of ys at
  moved xs ys same at r = record { units = r.units; name = r.name; behind = subst (λ (f : List A). IsAmong r.name (drop 1 f)) (same r.units) r.behind; starts = r.starts }

  -- so the first among rising names is the first among the names in their places
  pub first_in_place : (members names : List A) (r : Option ℕ) → IsStableBy (falls units_of) members names → IsLeast (IsRepeated units_of start_of names) r → IsLeast (IsRepeated units_of start_of members) r
  first_in_place members names r stable h =
      least_same (IsRepeated units_of start_of names) (IsRepeated units_of start_of members)
      (moved names members (λ units. equal_kept units_of units members names stable))
      (moved members names (λ units. sym (equal_kept units_of units members names stable))) r h

  -- ---- step by step

  two_left : (names : List A) (at : ℕ) → suc at < length names → drop at names ≡ get_or names at spare ∷ (get_or names (suc at) spare ∷ drop (suc (suc at)) names)
  two_left names at h = drop-cons names at spare (omega (arith, h)) ∙ ap (λ (xs : List A). get_or names at spare ∷ xs) (drop-cons names (suc at) spare h)

  pub tie_step : (names : List A) (at next : ℕ) (a b : A) (first t : Option ℕ) → suc at < length names → next ≡ suc at → a ≡ get_or names at spare → b ≡ get_or names (suc at) spare
      → t ≡ tie_start units_of start_of a b → Leads (IsTie units_of start_of names) (IsTie units_of start_of (drop at names)) first
      → Leads (IsTie units_of start_of names) (IsTie units_of start_of (drop next names)) (earlier_of first t)
  tie_step names at next a b first t low is a_is b_is t_is h =
      let x = get_or names at spare in
      let y = get_or names (suc at) spare in
      let rest = drop (suc (suc at)) names in
      let here : drop at names ≡ x ∷ (y ∷ rest) = two_left names at low in
      let there : drop next names ≡ y ∷ rest = ap (λ (n : ℕ). drop n names) is ∙ drop-cons names (suc at) spare low in
      let t_there : t ≡ tie_start units_of start_of x y = t_is ∙ ap (λ (n : A). tie_start units_of start_of n b) a_is ∙ ap (λ (n : A). tie_start units_of start_of x n) b_is in
      subst (λ (xs : List A). Leads (IsTie units_of start_of names) (IsTie units_of start_of xs) (earlier_of first t)) (sym there)
      (subst (λ (o : Option ℕ). Leads (IsTie units_of start_of names) (IsTie units_of start_of (y ∷ rest)) (earlier_of first o)) (sym t_there)
      (leads_on (IsTie units_of start_of names) (IsTie units_of start_of (x ∷ (y ∷ rest))) (IsTie units_of start_of (y ∷ rest)) (λ n. tie_start units_of start_of x y ≡ Some n) first (tie_start units_of start_of x y)
      (least_one (tie_start units_of start_of x y)) (λ n k. k) (λ n k. k)
      (subst (λ (xs : List A). Leads (IsTie units_of start_of names) (IsTie units_of start_of xs) first) here h)))

  short : (xs : List A) → length xs ≤ 1 → (n : ℕ) → IsTie units_of start_of xs n → ⊥
  short [] h n k = k
  short (a ∷ []) h n k = k
  short (a ∷ b ∷ xs) h n k = omega (arith, h)

  pub no_more_ties : (names : List A) (at : ℕ) → length (drop at names) ≤ 1 → (n : ℕ) → IsTie units_of start_of (drop at names) n → ⊥
  no_more_ties names at h = short (drop at names) h

module _ (text : List ℕ) (rows : List Row) where
  pub first_in_object : (node : ℕ) (names : List ℕ) (r : Option ℕ) → IsObjectAt rows node → IsStableBy (is_below text rows) (child_numbers rows node) names
      → IsLeast (IsRepeatIn text rows names) r → IsLeast (IsRepeatOf text rows node) r
  first_in_object node names r is stable h =
      least_same (IsRepeatIn text rows (child_numbers rows node)) (IsRepeatOf text rows node) (λ at x. (is, x)) (λ at x. x.1) r
      (first_in_place 0 (name_units text rows) (λ n. start_in (name_at rows n)) (child_numbers rows node) names r stable h)

  -- ---- object by object

  pub from_any : (first : Option ℕ) → IsLeast (IsRepeatFrom text rows 0) first → IsLeast (IsRepeat text rows) first
  from_any first h =
      least_same (IsRepeatFrom text rows 0) (IsRepeat text rows)
      (λ n x. record { object = x.object; is_object = x.repeats.0; repeats = x.repeats.1 })
      (λ n x. record { object = x.object; from = omega arith; repeats = (x.is_object, x.repeats) }) first h

  or_later : (node next n : ℕ) → next ≡ suc node → IsRepeatFrom text rows node n → IsRepeatOf text rows node n ⊎ IsRepeatFrom text rows next n
  or_later node next n is x = pick (le_or x.object)
    where
      le_or : (o : ℕ) → (o ≤ node) ⊎ (suc node ≤ o)
      le_or o = dec o node
        where
          dec : (a b : ℕ) → (a ≤ b) ⊎ (suc b ≤ a)
          dec zero b = inl (omega arith)
          dec (suc a) zero = inr (omega arith)
          dec (suc a) (suc b) = elim (dec a b) [ inl h ↦ inl (omega (arith, h)) | inr h ↦ inr (omega (arith, h)) ]

      pick : (x.object ≤ node) ⊎ (suc node ≤ x.object) → IsRepeatOf text rows node n ⊎ IsRepeatFrom text rows next n
      pick (inl le) =
          let low = x.from in
          let same : x.object ≡ node = omega (arith, le, low) in
          inl (subst (λ (o : ℕ). IsRepeatOf text rows o n) same x.repeats)
      pick (inr le) = inr (record { object = x.object; from = omega (arith, le, is); repeats = x.repeats })

  pub object_step : (node next : ℕ) (first t : Option ℕ) → next ≡ suc node → IsLeast (IsRepeatOf text rows node) t
      → Leads (IsRepeatFrom text rows 0) (IsRepeatFrom text rows node) first → Leads (IsRepeatFrom text rows 0) (IsRepeatFrom text rows next) (earlier_of first t)
  object_step node next first t is here h =
      leads_on (IsRepeatFrom text rows 0) (IsRepeatFrom text rows node) (IsRepeatFrom text rows next) (IsRepeatOf text rows node) first t here
      (λ n auto. elim auto [
        | inl x ↦ record { object = node; from = omega arith; repeats = x }
        | inr x ↦ (let low = x.from in record { object = x.object; from = omega (arith, low, is); repeats = x.repeats })
      ])
      (λ n x. or_later node next n is x) h

  no_object : (o : ℕ) → length rows ≤ o → IsObjectAt rows o → ⊥
  no_object o h is = let e = slice_get_past rows o h in let none : kind_at rows o ≡ kind.Null = ap kind_in e in absurd (cc (none, is))

  pub no_more_objects : (node : ℕ) → length rows ≤ node → (n : ℕ) → IsRepeatFrom text rows node n → ⊥
  no_more_objects node h n x = let low = x.from in no_object x.object (omega (arith, h, low)) x.repeats.0
