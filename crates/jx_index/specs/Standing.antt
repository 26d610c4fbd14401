-- Where a node stands in a tree: its number, its parent, its place among its siblings and its name.
use Rattle.std.specs.Prelude.{◌≡◌, ℕ, suc, ◌+◌, Option, Some, None, slice_get}
use Rattle.jx_lex.specs.declared.kind.Kind.{Kind}
use Rattle.jx_summary.specs.declared.span.Span.{Span}
use Rattle.jx_run.specs.Tree.{Tree, node, Children, child}
use Rattle.jx_index.specs.declared.row.Row.{Row}
use Rattle.jx_index.specs.Rows.{size, rows}

pub record Standing : Type 0 where
  pub number : ℕ
  pub parent : Option ℕ
  pub place : ℕ
  pub name : Option Span

abbrev pub standing : ℕ → Option ℕ → ℕ → Option Span → Standing
standing number parent place name = record { number = number; parent = parent; place = place; name = name }

abbrev pub row_of : Tree → Standing → Row
row_of (node kind span _) s = record { kind = kind; span = span; parent = s.parent; place = s.place; name = s.name }

mutual
  -- where the tree stands so, a node inside stands so
  pub data Stands : Tree → Standing → Tree → Standing → Type 0 where
    itself : {tree : Tree} {s : Standing} → Stands tree s tree s
    inside : {kind : Kind} {span : Span} {children : Children} {s t : Standing} {inner : Tree}
        → StandsBelow children (suc s.number) s.number 0 inner t → Stands (node kind span children) s inner t

  -- the same, where the first child has a number, a parent and a place
  pub data StandsBelow : Children → ℕ → ℕ → ℕ → Tree → Standing → Type 0 where
    in_first : {name : Option Span} {tree inner : Tree} {more : Children} {m q p : ℕ} {t : Standing}
        → Stands tree (standing m (Some q) p name) inner t → StandsBelow (child name tree more) m q p inner t
    in_later : {name : Option Span} {tree inner : Tree} {more : Children} {m q p : ℕ} {t : Standing}
        → StandsBelow more (m + size tree) q (suc p) inner t → StandsBelow (child name tree more) m q p inner t

abbrev pub root_standing : Standing
root_standing = standing 0 None 0 None

-- a node of the tree has this number, and the row there is its row
pub record HasNode (tree : Tree) (number : ℕ) : Type 0 where
  pub inner : Tree
  pub standing : Standing
  pub stands : Stands tree root_standing inner standing
  pub number_is : standing.number ≡ number
  pub is_row : slice_get (rows tree) number ≡ Some (row_of inner standing)
