-- The names that an object repeats, of a text whose bytes stand further on.
use Rattle.std.proofs.Common.{◌≡◌, ℕ, zero, suc, ◌+◌, ◌-◌, ◌^◌, ◌<◌, ◌≤◌, min, List, [], ◌∷◌, ◌++◌, length, take, drop, map, Option, None, Some, cond, refl, sym, ap, subst, ◌∙◌, arith}
use Rattle.std.specs.Prelude.{filter, slice_get, slice_range}
use Rattle.std.specs.Option.{option_map}
use Rattle.std.specs.Ordering.{nat_cmp, is_eq}
use Rattle.std.specs.Cmp.Lexicographic.{slice_cmp}
use Rattle.std.proofs.lemmas.List.{drop-drop, drop-take, length-take, map-append, take-take}
use Rattle.std.proofs.lemmas.List.Elements.{filter_agree}
use Rattle.std.proofs.lemmas.Option.{slice_get-map}
use Rattle.jx_summary.specs.declared.span.Span.{Span}
use Rattle.jx_run.specs.ReaderInside.{offset_at}
use Rattle.jx_run.specs.Tree.{Tree, node, Children, no_children, child}
use Rattle.jx_index.specs.declared.row.Row.{Row}
use Rattle.jx_index.specs.Names.{name_units, units_of_name}
use Rattle.jx_index.specs.Nodes.{child_numbers, is_parent, kind_at, kind_in, name_at, name_in, with_parent}
use Rattle.jx_index.specs.Repeats.{has_units, start_in, IsAmong, IsLeast, IsRepeat}
use Rattle.jx_index.specs.Rows.{rows, rows_below, rows_from, size, sizes}
use Rattle.jx_index.specs.Units.{between_marks, chars_units, units_at}
use Rattle.jx_index.specs.declared.units.Spelling.TheVariants.{InText}
use Rattle.jx_answer.proofs.MovedTrees.{moved_children, moved_name, moved_span, moved_tree, NameBy, NamesBelow, NamesBy}

-- ---- the rows of a tree

abbrev moved_row : ℕ → Row → Row
moved_row by row = record row { span = moved_span by row.span; name = moved_name by row.name }

mutual
  size_moved : (by : ℕ) (tree : Tree) → size (moved_tree by tree) ≡ size tree
  size_moved by (node kind place children) = ap suc (sizes_moved by children)

  sizes_moved : (by : ℕ) (children : Children) → sizes (moved_children by children) ≡ sizes children
  sizes_moved by no_children = refl
  sizes_moved by (child name tree more) = ap (λ (n : ℕ). n + sizes (moved_children by more)) (size_moved by tree) ∙ ap (λ (n : ℕ). size tree + n) (sizes_moved by more)

mutual
  rows_moved : (by : ℕ) (tree : Tree) (number : ℕ) (parent : Option ℕ) (place : ℕ) (name : Option Span)
      → rows_from (moved_tree by tree) number parent place (moved_name by name) ≡ map (moved_row by) (rows_from tree number parent place name)
  rows_moved by (node kind s children) number parent place name =
      ap (λ (rs : List Row). record { kind = kind; span = moved_span by s; parent = parent; place = place; name = moved_name by name } ∷ rs) (below_moved by children (suc number) number 0)

  below_moved : (by : ℕ) (children : Children) (number parent place : ℕ)
      → rows_below (moved_children by children) number parent place ≡ map (moved_row by) (rows_below children number parent place)
  below_moved by no_children number parent place = refl
  below_moved by (child name tree more) number parent place =
      ap (λ (rs : List Row). rs ++ rows_below (moved_children by more) (number + size (moved_tree by tree)) parent (suc place)) (rows_moved by tree number (Some parent) place name)
      ∙ ap (λ (n : ℕ). map (moved_row by) (rows_from tree number (Some parent) place name) ++ rows_below (moved_children by more) (number + n) parent (suc place)) (size_moved by tree)
      ∙ ap (λ (rs : List Row). map (moved_row by) (rows_from tree number (Some parent) place name) ++ rs) (below_moved by more (number + size tree) parent (suc place))
      ∙ sym (map-append (moved_row by) (rows_from tree number (Some parent) place name) (rows_below more (number + size tree) parent (suc place)))

-- ---- where the names of rows lie

abbrev RowsBy : ℕ → List Row → Type 0
RowsBy end [] = Unit {0}
RowsBy end (row ∷ rows) = NameBy end row.name × RowsBy end rows

rows_by_all : (end : ℕ) (xs ys : List Row) → RowsBy end xs → RowsBy end ys → RowsBy end (xs ++ ys)
rows_by_all end [] ys h k = k
rows_by_all end (x ∷ xs) ys h k = (h.0, rows_by_all end xs ys h.1 k)

mutual
  rows_by : (end : ℕ) (tree : Tree) (number : ℕ) (parent : Option ℕ) (place : ℕ) (name : Option Span) → NameBy end name → NamesBy end tree → RowsBy end (rows_from tree number parent place name)
  rows_by end (node kind s children) number parent place name h k = (h, below_by end children (suc number) number 0 k)

  below_by : (end : ℕ) (children : Children) (number parent place : ℕ) → NamesBelow end children → RowsBy end (rows_below children number parent place)
  below_by end no_children number parent place h = tt
  below_by end (child name tree more) number parent place h =
      rows_by_all end (rows_from tree number (Some parent) place name) (rows_below more (number + size tree) parent (suc place)) (rows_by end tree number (Some parent) place name h.0 h.1)
      (below_by end more (number + size tree) parent (suc place) h.2)

name_lies : (end : ℕ) (table : List Row) (n : ℕ) → RowsBy end table → NameBy end (name_at table n)
name_lies end [] n h = tt
name_lies end (row ∷ table) zero h = h.0
name_lies end (row ∷ table) (suc n) h = name_lies end table n h.1

-- ---- what rows say

kind_stays : (by : ℕ) (r : Option Row) → kind_in (option_map (moved_row by) r) ≡ kind_in r
kind_stays by None = refl
kind_stays by (Some row) = refl

name_moves : (by : ℕ) (r : Option Row) → name_in (option_map (moved_row by) r) ≡ moved_name by (name_in r)
name_moves by None = refl
name_moves by (Some row) = refl

kinds : (by : ℕ) (table : List Row) (n : ℕ) → kind_at (map (moved_row by) table) n ≡ kind_at table n
kinds by table n = ap kind_in (slice_get-map (moved_row by) table n) ∙ kind_stays by (slice_get table n)

names : (by : ℕ) (table : List Row) (n : ℕ) → name_at (map (moved_row by) table) n ≡ moved_name by (name_at table n)
names by table n = ap name_in (slice_get-map (moved_row by) table n) ∙ name_moves by (slice_get table n)

parents : (by n i : ℕ) (table : List Row) → with_parent n i (map (moved_row by) table) ≡ with_parent n i table
parents by n i [] = refl
parents by n i (row ∷ table) = ap (λ (ns : List ℕ). cond (is_parent n row.parent) (i ∷ ns) ns) (parents by n (suc i) table)

-- ---- the units of names

-- a slice of a slice
pub inner_slice : (text : List ℕ) (from to a b : ℕ) → a ≤ b → b ≤ to - from → slice_range text (from + a) (from + b) ≡ slice_range (slice_range text from to) a b
inner_slice text from to a b low high =
    let m : ℕ = to - from in
    let long : (from + b) - (from + a) ≡ b - a = omega (arith, low) in
    let sum : a + (m - a) ≡ m = omega (arith, low, high) in
    ap (λ (n : ℕ). take n (drop (from + a) text)) long
    ∙ ap (take (b - a)) (sym (drop-drop a from text))
    ∙ sym (take-take (b - a) (m - a) (drop a (drop from text)) (omega (arith, low, high)))
    ∙ ap (take (b - a)) (sym (drop-take a (m - a) (drop from text)))
    ∙ ap (λ (n : ℕ). take (b - a) (drop a (take n (drop from text)))) sum

module _ (by end : ℕ) (input bytes : List ℕ) (stands : slice_range input by end ≡ bytes) where
  long : length bytes ≤ end - by
  long =
      let cut : length (slice_range input by end) ≡ min (end - by) (length (drop by input)) = length-take (end - by) (drop by input) in
      let same : length (slice_range input by end) ≡ length bytes = ap length stands in
      omega (arith, cut, same)

  units_stay : (name : Option Span) → NameBy (length bytes) name → units_of_name input (moved_name by name) ≡ units_of_name bytes name
  unfolding units_at
  units_stay None h = refl
  units_stay (Some s) h =
      let within = long in
      let e = h.1 in
      ap (λ (w : List ℕ). chars_units InText 0 (between_marks w))
      (inner_slice input by end s.start s.end h.0 (omega (arith, e, within)) ∙ ap (λ (t : List ℕ). slice_range t s.start s.end) stands)

  -- ---- what is repeated

  module _ (table : List Row) (named : RowsBy (length bytes) table) where
    abbrev moved_rows : List Row
    moved_rows = map (moved_row by) table

    units : (n : ℕ) → name_units input moved_rows n ≡ name_units bytes table n
    units n = ap (units_of_name input) (names by table n) ∙ units_stay (name_at table n) (name_lies (length bytes) table n named)

    same_units : (wanted : List ℕ) (members : List ℕ) → filter (has_units (name_units input moved_rows) wanted) members ≡ filter (has_units (name_units bytes table) wanted) members
    same_units wanted = filter_agree (has_units (name_units input moved_rows) wanted) (has_units (name_units bytes table) wanted) (λ n. ap (λ us. is_eq (slice_cmp nat_cmp us wanted)) (units n))

    -- the members of an object that have these units
    same_members : (object : ℕ) (wanted : List ℕ) → filter (has_units (name_units input moved_rows) wanted) (child_numbers moved_rows object)
        ≡ filter (has_units (name_units bytes table) wanted) (child_numbers table object)
    same_members object wanted = same_units wanted (child_numbers moved_rows object) ∙ ap (filter (has_units (name_units bytes table) wanted)) (parents by object 0 table)

    start_moves : (name : Option Span) (at : ℕ) → start_in name ≡ Some at → start_in (moved_name by name) ≡ Some (by + at)
    start_moves None at h = absurd (cc)
    start_moves (Some s) at h = let same : s.start ≡ at = cc in ap (λ (n : ℕ). let o : Option ℕ = Some (by + n) in o) same

    -- the offset of a name lies in the bytes
    start_lies : (name : Option Span) (at : ℕ) → NameBy (length bytes) name → start_in name ≡ Some at → at ≤ length bytes
    start_lies None at h e = absurd (cc)
    start_lies (Some s) at h e = let same : s.start ≡ at = cc in let low = h.0 in let high = h.1 in omega (arith, same, low, high)

    abbrev IsBack : ℕ → Option Span → Type 0
    IsBack n name = (at : ℕ) × (n ≡ by + at) × (start_in name ≡ Some at)

    start_back : (name : Option Span) (n : ℕ) → start_in (moved_name by name) ≡ Some n → IsBack n name
    start_back None n h = absurd (cc)
    start_back (Some s) n h = let same : by + s.start ≡ n = cc in (s.start, sym same, refl)

    repeat_moves : (at : ℕ) → IsRepeat bytes table at → IsRepeat input moved_rows (by + at)
    repeat_moves at r =
        let x = r.repeats in
        record {
          object = r.object;
          is_object = kinds by table r.object ∙ r.is_object;
          repeats = record {
            units = x.units;
            name = x.name;
            behind = subst (λ (ms : List ℕ). IsAmong x.name (drop 1 ms)) (sym (same_members r.object x.units)) x.behind;
            starts = ap start_in (names by table x.name) ∙ start_moves (name_at table x.name) at x.starts;
          };
        }

    repeat_back : (n : ℕ) → IsRepeat input moved_rows n → (at : ℕ) × (n ≡ by + at) × IsRepeat bytes table at
    repeat_back n r =
        let x = r.repeats in
        let s = start_back (name_at table x.name) n (sym (ap start_in (names by table x.name)) ∙ x.starts) in (
          s.0,
          s.1,
          record {
            object = r.object;
            is_object = sym (kinds by table r.object) ∙ r.is_object;
            repeats = record {
              units = x.units;
              name = x.name;
              behind = subst (λ (ms : List ℕ). IsAmong x.name (drop 1 ms)) (same_members r.object x.units) x.behind;
              starts = s.2;
            };
          },
        )

    repeat_lies : (at : ℕ) → IsRepeat bytes table at → at ≤ length bytes
    repeat_lies at r = let x = r.repeats in start_lies (name_at table x.name) at (name_lies (length bytes) table x.name named) x.starts

    least_moves : by + length bytes < 2 ^ 64 → (name : Option ℕ) → IsLeast (IsRepeat bytes table) name → IsLeast (IsRepeat input moved_rows) (option_map (offset_at by) name)
    least_moves fits None h = λ n r. let back = repeat_back n r in h back.0 back.2
    least_moves fits (Some at) h =
        let lies = repeat_lies at h.0 in
        let there : by + at ≡ offset_at by at = omega (arith, lies, fits) in
        subst (λ (n : ℕ). IsLeast (IsRepeat input moved_rows) (Some n)) there (
          repeat_moves at h.0,
          λ n r. (let back = repeat_back n r in let first = h.1 back.0 back.2 in let is = back.1 in omega (arith, first, is)),
        )

-- the first name that an object repeats in a tree whose text stands further on
pub least_behind : (by end : ℕ) (input bytes : List ℕ) → slice_range input by end ≡ bytes → by + length bytes < 2 ^ 64 → (tree : Tree) → NamesBy (length bytes) tree → (name : Option ℕ)
    → IsLeast (IsRepeat bytes (rows tree)) name → IsLeast (IsRepeat input (rows (moved_tree by tree))) (option_map (offset_at by) name)
least_behind by end input bytes stands fits tree named name h =
    subst (λ (table : List Row). IsLeast (IsRepeat input table) (option_map (offset_at by) name)) (sym (rows_moved by tree 0 None 0 None))
    (least_moves by end input bytes stands (rows tree) (rows_by (length bytes) tree 0 None 0 None tt named) fits name h)
