-- For each node of a tree, in the order of the rows, the number of the row after all that stands in it.
use Rattle.std.specs.Prelude.{ℕ, suc, ◌+◌, List, [], ◌∷◌, ◌++◌}
use Rattle.jx_run.specs.Tree.{Tree, node, Children, no_children, child}
use Rattle.jx_index.specs.Rows.{size, sizes}

-- where the node, or the first of the children, has a number
abbrev mutual
  pub afters_from : Tree → ℕ → List ℕ
  afters_from (node kind span children) number = (number + suc (sizes children)) ∷ afters_below children (suc number)

  pub afters_below : Children → ℕ → List ℕ
  afters_below no_children number = []
  afters_below (child name tree more) number = afters_from tree number ++ afters_below more (number + size tree)

abbrev pub afters : Tree → List ℕ
afters tree = afters_from tree 0
