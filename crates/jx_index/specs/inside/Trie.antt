-- The tokens of several pointers, each beginning once, and what is noted for all of them in one pass.
use Rattle.std.specs.Prelude.{◌≡◌, ℕ, zero, suc, ◌+◌, ◌-◌, ◌^◌, ◌<◌, ◌≤◌, ◌==◌, ◌&&◌, List, [], ◌∷◌, Bool, true, false, Option, None, Some, cond, is_some, map, slice_get}
use Rattle.std.specs.Ordering.{nat_cmp, is_lt, is_eq}
use Rattle.std.specs.Cmp.Lexicographic.{slice_cmp}
use Rattle.jx_lex.specs.declared.kind.Kind.TheVariants as kind
use Rattle.jx_lex.specs.declared.alphabet.mark.Mark.{Mark}
use Rattle.jx_lex.specs.declared.alphabet.mark.MarkKind.{MarkKind}
use Rattle.jx_lex.specs.declared.alphabet.mark.MarkKind.TheVariants as mark
use Rattle.jx_summary.specs.declared.span.Span.{Span}
use Rattle.jx_run.specs.Tree.{span}
use Rattle.jx_index.specs.ArrayTokens.{place_in}
use Rattle.jx_index.specs.Pointers.{tokens}
use Rattle.jx_index.specs.Units.{chars_units, units_at}
use Rattle.jx_index.specs.declared.array_token.Place.{Place}
use Rattle.jx_index.specs.declared.array_token.Place.TheVariants as place
use Rattle.jx_index.specs.declared.finder.Cursor.{Cursor}
use Rattle.jx_index.specs.declared.trie.Edge.{Edge}
use Rattle.jx_index.specs.declared.trie.Key.{Key}
use Rattle.jx_index.specs.declared.units.Spelling.TheVariants.{InToken}
use Rattle.jx_index.specs.inside.Building.{next_end, ends_after}
use Rattle.jx_index.specs.inside.Finding.{Finding, is_place, begin_at, behind_name, end_in, leaf_at, met_at, naming, skip_over}

-- ---- the trie: the edge with the number i leads to the node suc i

abbrev pub edge_units : Edge → List ℕ
edge_units e = chars_units InToken 0 e.name.now

-- which place is noted of a token: the one that it names, or the greatest number
abbrev pub place_number : Place → ℕ
place_number (place.Element at) = at
place_number place.PastEnd = 2 ^ 64 - 1
place_number place.AfterLast = 2 ^ 64 - 1
place_number place.NotAnIndex = 2 ^ 64 - 1

abbrev pub place_of : List ℕ → ℕ
place_of units = place_number (place_in units (2 ^ 64 - 1))

-- edges are ordered by their parents, then by places, then by tokens
abbrev pub edge_key : Edge → List ℕ
edge_key e = e.parent ∷ e.place ∷ edge_units e

abbrev pub is_before : Edge → Edge → Bool
is_before a b = is_lt (slice_cmp nat_cmp (edge_key a) (edge_key b))

-- an edge is after all before it, and after the one that leads to its parent
pub record IsEdgeAt (edges : List Edge) (i : ℕ) : Type 0 where
  pub place_is : (e : Edge) → slice_get edges i ≡ Some e → e.place ≡ place_of (edge_units e)
  pub parent_earlier : (e : Edge) → slice_get edges i ≡ Some e → e.parent ≤ i
  pub rises : (j : ℕ) (a b : Edge) → j < i → slice_get edges j ≡ Some a → slice_get edges i ≡ Some b → is_before a b ≡ true

abbrev pub IsTrie : List Edge → Type 0
IsTrie edges = (i : ℕ) → IsEdgeAt edges i

-- ---- where a node's children are

-- which edge is the first to pass a test, from the number i on
abbrev pub first_of : (Edge → Bool) → List Edge → ℕ → Option ℕ
first_of p [] i = None
first_of p (e ∷ edges) i = cond (p e) (Some i) (first_of p edges (suc i))

abbrev pub leads_to_place : ℕ → ℕ → Edge → Bool
leads_to_place node place e = (e.parent == node) && is_place (edge_units e) place

abbrev pub leads_to_units : ℕ → List ℕ → Edge → Bool
leads_to_units node units e = (e.parent == node) && is_eq (slice_cmp nat_cmp units (edge_units e))

abbrev pub element_at : List Edge → ℕ → ℕ → Option ℕ
element_at edges node place = first_of (leads_to_place node place) edges 1

abbrev pub child_at : List Edge → ℕ → List ℕ → Option ℕ
child_at edges node units = first_of (leads_to_units node units) edges 1

abbrev pub member_at : List ℕ → List Edge → ℕ → Option Span → Option ℕ
member_at text edges node None = None
member_at text edges node (Some name) = child_at edges node (units_at text name)

-- where edges are halved: which are below a key, and which are not
pub record IsFirstFrom (edges : List Edge) (key : List ℕ) (at : ℕ) : Type 0 where
  pub below : (j : ℕ) (e : Edge) → j < at → slice_get edges j ≡ Some e → is_lt (slice_cmp nat_cmp (edge_key e) key) ≡ true
  pub others : (j : ℕ) (e : Edge) → at ≤ j → slice_get edges j ≡ Some e → is_lt (slice_cmp nat_cmp (edge_key e) key) ≡ false

-- the key by which an edge is looked for, as edges are ordered
abbrev pub sought_key : Key → List ℕ
sought_key k = k.node ∷ k.place ∷ chars_units k.spelling 0 k.bytes.now

-- there is an edge, and it is before a key
abbrev pub stands_before : Option Edge → List ℕ → Bool
stands_before None key = false
stands_before (Some e) key = is_lt (slice_cmp nat_cmp (edge_key e) key)

-- no edge stands in front, or the last one before a key
abbrev pub follows : List Edge → ℕ → List ℕ → Bool
follows edges zero key = true
follows edges (suc at) key = stands_before (slice_get edges at) key

-- there is an edge, and it names a place
abbrev pub is_placed : Option Edge → ℕ → Bool
is_placed None place = false
is_placed (Some e) place = e.place == place

-- the nodes to which some tokens lead from a node, this one first
pub data IsWay (edges : List Edge) : ℕ → List (List ℕ) → List ℕ → Type 0 where
  stops : {node : ℕ} → IsWay edges node [] (node ∷ [])
  goes : {node c : ℕ} {token : List ℕ} {more : List (List ℕ)} {path : List ℕ} (e : Edge) → slice_get edges c ≡ Some e → e.parent ≡ node → edge_units e ≡ token → node ≤ c
      → IsWay edges (suc c) more path → IsWay edges node (token ∷ more) (node ∷ path)

-- the trie has a pointer's tokens
pub record HasWay (edges : List Edge) (pointer : List ℕ) : Type 0 where
  pub path : List ℕ
  pub way : IsWay edges 0 (tokens pointer) path

-- ---- one token start, noted for all pointers

abbrev pub first_open : List Cursor → Option Cursor
first_open [] = None
first_open (top ∷ outer) = Some top

-- which node the next value meets, where one does
abbrev pub target_among : List Edge → List Cursor → Option (Option ℕ) → Option ℕ
target_among edges [] name = Some 0
target_among edges (top ∷ outer) name = cond top.is_object (behind_name name) (element_at edges top.level top.count)

abbrev pub target_node : List Edge → Finding → Option ℕ
target_node edges f = target_among edges f.opened f.name

abbrev pub string_among : Option ℕ → List ℕ → List Edge → Span → Finding → Finding
string_among None text edges span f = leaf_at (target_node edges f) kind.String span f
string_among (Some node) text edges span f = record f { name = Some (member_at text edges node (Some span)) }

abbrev pub among : List ℕ → List Edge → MarkKind → ℕ → ℕ → Finding → Finding
among text edges mark.OpenArray at end f = begin_at (target_node edges f) kind.Array false at f
among text edges mark.OpenObject at end f = begin_at (target_node edges f) kind.Object true at f
among text edges mark.CloseArray at end f = end_in (suc at) f.opened f
among text edges mark.CloseObject at end f = end_in (suc at) f.opened f
among text edges mark.Colon at end f = f
among text edges mark.Comma at end f = f
among text edges mark.String at end f = string_among (naming f.opened f.name) text edges (span at end) f
among text edges mark.Number at end f = leaf_at (target_node edges f) kind.Number (span at end) f
among text edges mark.True at end f = leaf_at (target_node edges f) kind.True (span at end) f
among text edges mark.False at end f = leaf_at (target_node edges f) kind.False (span at end) f
among text edges mark.Null at end f = leaf_at (target_node edges f) kind.Null (span at end) f

abbrev pub sought_in : ℕ → List ℕ → List Edge → MarkKind → ℕ → ℕ → Finding → Finding
sought_in zero text edges kind at end f = among text edges kind at end f
sought_in (suc skipped) text edges kind at end f = record f { skipped = skip_over kind skipped }

abbrev pub sought : List ℕ → List Edge → MarkKind → ℕ → ℕ → Finding → Finding
sought text edges kind at end f = sought_in f.skipped text edges kind at end f

-- whether a token start that comes next begins the name of a member
abbrev pub is_name_next : MarkKind → Finding → Bool
is_name_next mark.String f = (f.skipped == 0) && is_some (naming f.opened f.name)
is_name_next _ f = false

-- `last` is the end of the text
unfoldable pub seek_all : List ℕ → List Edge → ℕ → List Mark → List ℕ → Finding → Finding
seek_all text edges last [] ends f = f
seek_all text edges last (mark ∷ marks) ends f =
    seek_all text edges last marks (ends_after mark.kind ends) (sought text edges mark.kind mark.at (next_end last ends) f)

-- ---- one pointer among them

-- how many tokens lead to a node, where it is on the path
abbrev pub after_one : Option ℕ → Option ℕ
after_one None = None
after_one (Some level) = Some (suc level)

abbrev pub level_on : List ℕ → ℕ → Option ℕ
level_on [] node = None
level_on (first ∷ path) node = cond (first == node) (Some 0) (after_one (level_on path node))

abbrev pub level_of : List ℕ → Option ℕ → Option ℕ
level_of path None = None
level_of path (Some node) = level_on path node

abbrev pub name_on : List ℕ → Option (Option ℕ) → Option (Option ℕ)
name_on path None = None
name_on path (Some target) = Some (level_of path target)

-- the open containers on the path, with their levels, and how many are open below them
pub data Opens (path : List ℕ) : List Cursor → List Cursor → ℕ → Type 0 where
  none_open : Opens path [] [] 0
  on_it : {outer seen : List Cursor} {level : ℕ} (c : Cursor) → level_on path c.level ≡ Some level → Opens path outer seen 0
      → Opens path (c ∷ outer) (record c { level = level } ∷ seen) 0
  off_it : {outer seen : List Cursor} {below : ℕ} (c : Cursor) → level_on path c.level ≡ None → Opens path outer seen below → Opens path (c ∷ outer) seen (suc below)

-- where containers below the path are open, no name is waiting on it
abbrev pub ShowsName : List ℕ → ℕ → Option (Option ℕ) → Option (Option ℕ) → Type 0
ShowsName path zero all one = one ≡ name_on path all
ShowsName path (suc below) all one = (one ≡ None) × (level_of path (behind_name all) ≡ None)

-- the notes for all, as a path shows them, where so many containers are open below the path
pub record Shows (path : List ℕ) (below : ℕ) (all one : Finding) : Type 0 where
  pub met : one.met ≡ map (met_at all.met) path
  pub opened : Opens path all.opened one.opened below
  pub skipped : one.skipped ≡ all.skipped + below
  pub name : ShowsName path below all.name one.name

-- ---- the next place wanted

abbrev pub place_at : Option Edge → ℕ → ℕ
place_at None node = 2 ^ 64 - 1
place_at (Some e) node = cond (e.parent == node) e.place (2 ^ 64 - 1)

-- the place that an edge names, where it is one from this node, or the greatest number
abbrev pub place_from : List Edge → ℕ → ℕ → ℕ
place_from edges at node = place_at (slice_get edges at) node

-- no edge from a node names a place from a count on and below this
abbrev pub IsNextFrom : List Edge → ℕ → ℕ → ℕ → Type 0
IsNextFrom edges node count next = (i : ℕ) (e : Edge) → slice_get edges i ≡ Some e → e.parent ≡ node → e.place < next → e.place < count

-- the same for the innermost open container
abbrev pub IsNextIn : List Edge → List Cursor → ℕ → Type 0
IsNextIn edges [] next = Unit {0}
IsNextIn edges (top ∷ outer) next = IsNextFrom edges top.level top.count next
