-- The rows of a tree: all its nodes, each before its children, in the order of their starts.
use Rattle.std.specs.Prelude.{ℕ, suc, ◌+◌, List, [], ◌∷◌, ◌++◌, Option, None, Some}
use Rattle.jx_summary.specs.declared.span.Span.{Span}
use Rattle.jx_run.specs.Tree.{Tree, node, Children, no_children, child}
use Rattle.jx_index.specs.declared.row.Row.{Row}

-- how many nodes
abbrev mutual
  pub size : Tree → ℕ
  size (node kind span children) = suc (sizes children)

  pub sizes : Children → ℕ
  sizes no_children = 0
  sizes (child name tree more) = size tree + sizes more

-- the rows of a node with this number, and of children of which the first has a number and a place
abbrev mutual
  pub rows_from : Tree → ℕ → Option ℕ → ℕ → Option Span → List Row
  rows_from (node kind span children) number parent place name =
      record { kind = kind; span = span; parent = parent; place = place; name = name } ∷ rows_below children (suc number) number 0

  pub rows_below : Children → ℕ → ℕ → ℕ → List Row
  rows_below no_children number parent place = []
  rows_below (child name tree more) number parent place =
      rows_from tree number (Some parent) place name ++ rows_below more (number + size tree) parent (suc place)

abbrev pub rows : Tree → List Row
rows tree = rows_from tree 0 None 0 None
