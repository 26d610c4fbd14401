-- The names below an object are those of its members.
use Rattle.std.proofs.Common.{◌≡◌, ℕ, suc, List, [], ◌∷◌, ◌++◌, length, drop, append_assoc, Bool, true, false, cond, Option, None, Some, refl, sym, ap, subst, ◌∙◌, inl, inr, arith}
use Rattle.std.specs.Prelude.{filter, option_to_list}
use Rattle.std.proofs.lemmas.List.{length-append}
use Rattle.std.specs.Ordering.{nat_cmp, is_eq}
use Rattle.std.specs.Cmp.Lexicographic.{slice_cmp}
use Rattle.jx_summary.specs.declared.span.Span.{Span}
use Rattle.jx_run.specs.Text.{IsText}
use Rattle.jx_run.specs.Tree.{Tree}
use Rattle.jx_index.specs.declared.builder.Opened.{Opened}
use Rattle.jx_index.specs.declared.row.Row.{Row}
use Rattle.jx_index.specs.Names.{units_of_name, name_units}
use Rattle.jx_index.specs.Nodes.{IsObjectAt, is_parent, kind_at, name_at, name_in, with_parent, child_numbers}
use Rattle.jx_index.specs.Repeats.{IsAmong, has_units, start_in, IsLeast, IsRepeat, IsRepeatIn}
use Rattle.jx_index.specs.Rows.{rows}
use Rattle.jx_index.specs.Units.{units_at}
use Rattle.jx_index.specs.inside.Building.{Building}
use Rattle.jx_index.specs.inside.NameLists.{IsRepeatedName}
use Rattle.jx_index.specs.inside.OpenNames.{Held, names_below, IsEndedRepeat, IsHeldOf, IsNotOpen}
use Rattle.jx_index.proofs.Bridge.{slice_get_seam}
use Rattle.jx_index.proofs.Each.{Each}
use Rattle.jx_index.proofs.Leasts.{least_same}
use Rattle.jx_index.proofs.NamedTrees.{text_named}
use Rattle.jx_index.proofs.Uniques.{HasStart, members_start}

module _ (text : List ℕ) (table : List Row) where
  -- the members have these names
  abbrev AreNamed : List ℕ → List Span → Type 0
  AreNamed [] [] = Unit {0}
  AreNamed (m ∷ members) (name ∷ names) = (name_at table m ≡ Some name) × AreNamed members names
  AreNamed [] (name ∷ names) = ⊥
  AreNamed (m ∷ members) [] = ⊥

  abbrev units_of : ℕ → List ℕ
  units_of = name_units text table

  named_filter : (units : List ℕ) (members : List ℕ) (names : List Span) → AreNamed members names → AreNamed (filter (has_units units_of units) members) (filter (has_units (units_at text) units) names)
  named_filter units [] [] h = tt
  named_filter units [] (name ∷ names) h = absurd h
  named_filter units (m ∷ members) [] h = absurd h
  named_filter units (m ∷ members) (name ∷ names) h =
      subst (λ (c : Bool). AreNamed (cond c (m ∷ filter (has_units units_of units) members) (filter (has_units units_of units) members)) (filter (has_units (units_at text) units) (name ∷ names)))
      (sym (ap (λ (o : Option Span). is_eq (slice_cmp nat_cmp (units_of_name text o) units)) h.0)) (pick (has_units (units_at text) units name) (named_filter units members names h.1))
    where
      pick : (c : Bool) → AreNamed (filter (has_units units_of units) members) (filter (has_units (units_at text) units) names)
          → AreNamed (cond c (m ∷ filter (has_units units_of units) members) (filter (has_units units_of units) members)) (cond c (name ∷ filter (has_units (units_at text) units) names) (filter (has_units (units_at text) units) names))
      pick true rec = (h.0, rec)
      pick false rec = rec

  named_drop : (members : List ℕ) (names : List Span) → AreNamed members names → AreNamed (drop 1 members) (drop 1 names)
  named_drop [] [] h = tt
  named_drop [] (name ∷ names) h = absurd h
  named_drop (m ∷ members) [] h = absurd h
  named_drop (m ∷ members) (name ∷ names) h = h.1

  name_among : (node : ℕ) (members : List ℕ) (names : List Span) → AreNamed members names → IsAmong node members → (name : Span) × (name_at table node ≡ Some name) × IsAmong name names
  name_among node [] names h k = absurd k
  name_among node (m ∷ members) [] h k = absurd h
  name_among node (m ∷ members) (name ∷ names) h (inl e) = (name, ap (name_at table) (sym e) ∙ h.0, inl refl)
  name_among node (m ∷ members) (name ∷ names) h (inr k) = let rec = name_among node members names h.1 k in (rec.0, rec.1, inr rec.2)

  member_among : (name : Span) (members : List ℕ) (names : List Span) → AreNamed members names → IsAmong name names → (node : ℕ) × (name_at table node ≡ Some name) × IsAmong node members
  member_among name members [] h k = absurd k
  member_among name [] (first ∷ names) h k = absurd h
  member_among name (m ∷ members) (first ∷ names) h (inl e) = (m, h.0 ∙ ap (λ (s : Span). let o : Option Span = Some s in o) e, inl refl)
  member_among name (m ∷ members) (first ∷ names) h (inr k) = let rec = member_among name members names h.1 k in (rec.0, rec.1, inr rec.2)

  to_members : (members : List ℕ) (names : List Span) → AreNamed members names → (at : ℕ) → IsRepeatedName text names at → IsRepeatIn text table members at
  to_members members names h at x =
      let m = member_among x.name _ _ (named_drop _ _ (named_filter x.units members names h)) x.behind in
      record { units = x.units; name = m.0; behind = m.2; starts = ap start_in m.1 ∙ x.starts }

  of_members : (members : List ℕ) (names : List Span) → AreNamed members names → (at : ℕ) → IsRepeatIn text table members at → IsRepeatedName text names at
  of_members members names h at x =
      let m = name_among x.name _ _ (named_drop _ _ (named_filter x.units members names h)) x.behind in
      record { units = x.units; name = m.0; behind = m.2; starts = sym (ap start_in m.1) ∙ x.starts }

  -- ---- the rows of a parent

  one_named : (n : ℕ) (before : List Row) (row : Row) (behind : List Row) → name_at table (length before) ≡ row.name → (c : Bool) (name : Option Span) → row.name ≡ name
      → Each (HasStart table) (cond c (length before ∷ with_parent n (suc (length before)) behind) (with_parent n (suc (length before)) behind))
      → (Each (HasStart table) (with_parent n (suc (length before)) behind) → AreNamed (with_parent n (suc (length before)) behind) (names_below behind n))
      → AreNamed (cond c (length before ∷ with_parent n (suc (length before)) behind) (with_parent n (suc (length before)) behind)) (cond c (option_to_list row.name) [] ++ names_below behind n)
  one_named n before row behind here false name q k rec = rec k
  one_named n before row behind here true None q k rec =
      let s = k.0 in
      let none : start_in (name_at table (length before)) ≡ None = ap start_in (here ∙ q) in
      absurd (cc (s.1, none))
  one_named n before row behind here true (Some name) q k rec =
      subst (λ (o : Option Span). AreNamed (length before ∷ with_parent n (suc (length before)) behind) (option_to_list o ++ names_below behind n)) (sym q) (here ∙ q, rec k.1)

  below_named : (n : ℕ) (before behind : List Row) → table ≡ before ++ behind → Each (HasStart table) (with_parent n (length before) behind) → AreNamed (with_parent n (length before) behind) (names_below behind n)
  below_named n before [] e h = tt
  below_named n before (row ∷ behind) e h =
      let long : length (before ++ (row ∷ [])) ≡ suc (length before) = omega (arith, length-append before (row ∷ [])) in
      one_named n before row behind (ap (λ (t : List Row). name_at t (length before)) e ∙ ap name_in (slice_get_seam before row behind)) (is_parent n row.parent) row.name refl h
      (λ k.
      subst (λ (i : ℕ). AreNamed (with_parent n i behind) (names_below behind n)) long
      (below_named n (before ++ (row ∷ [])) behind (e ∙ sym (append_assoc before (row ∷ []) behind)) (subst (λ (i : ℕ). Each (HasStart table) (with_parent n i behind)) (sym long) k)))

-- ---- the whole text

-- where no container is open, the first repeated name is that of the rows
pub first_of_all : (text : List ℕ) (start end limit : ℕ) (tree : Tree) → IsText text start end limit tree → (b : Building) (h : Held) → IsHeldOf text b h → b.opened ≡ [] → b.rows ≡ rows tree
    → IsLeast (IsRepeat text (rows tree)) h.first
first_of_all text start end limit tree t b h x none same =
    least_same (IsEndedRepeat text (names_below b.rows) (kind_at b.rows) b.opened) (IsRepeat text (rows tree)) to of h.first x.least
  where
    named : (object : ℕ) → IsObjectAt (rows tree) object → AreNamed text (rows tree) (child_numbers (rows tree) object) (names_below (rows tree) object)
    named object is = below_named text (rows tree) object [] (rows tree) refl (members_start tree (text_named t.reads) object is)

    to : (at : ℕ) → IsEndedRepeat text (names_below b.rows) (kind_at b.rows) b.opened at → IsRepeat text (rows tree) at
    to at y =
        let is : IsObjectAt (rows tree) y.object = ap (λ (r : List Row). kind_at r y.object) (sym same) ∙ y.is_object in
        record {
          object = y.object;
          is_object = is;
          repeats = to_members text (rows tree) _ _ (named y.object is) at (subst (λ (r : List Row). IsRepeatedName text (names_below r y.object) at) same y.repeats);
        }

    of : (at : ℕ) → IsRepeat text (rows tree) at → IsEndedRepeat text (names_below b.rows) (kind_at b.rows) b.opened at
    of at y = record {
      object = y.object;
      is_object = ap (λ (r : List Row). kind_at r y.object) same ∙ y.is_object;
      ended = subst (λ (o : List Opened). IsNotOpen y.object o) (sym none) tt;
      repeats = subst (λ (r : List Row). IsRepeatedName text (names_below r y.object) at) (sym same) (of_members text (rows tree) _ _ (named y.object y.is_object) at y.repeats);
    }
