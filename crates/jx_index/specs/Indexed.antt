-- An index: a text, where it stands, and its rows.
use Rattle.std.specs.Prelude.{◌≡◌, ℕ, ◌+◌, List, length}
use Rattle.jx_summary.specs.declared.span.Span.{Span}
use Rattle.jx_run.specs.Tree.{Tree}
use Rattle.jx_run.specs.Text.{IsText}
use Rattle.jx_index.specs.declared.row.Row.{Row}
use Rattle.jx_index.specs.Rows.{rows}
use Rattle.jx_index.specs.Afters.{afters}
use Rattle.jx_index.specs.ChildLists.{HaveChildLists}

pub record IndexedValue : Type 0 where
  pub text : List ℕ
  pub span : Span
  pub rows : List Row

-- a text stands at the index's span
pub record HasTree (index : IndexedValue) : Type 0 where
  pub limit : ℕ
  pub tree : Tree
  pub is_text : IsText index.text index.span.start index.span.end limit tree

-- the rows and the numbers after them are those of the text's tree
pub record HasNodes (text : List ℕ) (span : Span) (table : List Row) (after : List ℕ) : Type 0 where
  pub limit : ℕ
  pub tree : Tree
  pub is_text : IsText text span.start span.end limit tree
  pub rows_are : table ≡ rows tree
  pub after_are : after ≡ afters tree

-- the rows, the numbers after them and the ordered children are those of the text's one tree
pub record IsIndexed (text : List ℕ) (span : Span) (table : List Row) (after starts children : List ℕ) : Type 0 where
  pub limit : ℕ
  pub tree : Tree
  pub is_text : IsText text span.start span.end limit tree
  pub rows_are : table ≡ rows tree
  pub after_are : after ≡ afters tree
  pub one_tree : (most : ℕ) (other : Tree) → IsText text span.start span.end most other → tree ≡ other
  pub starts_are : length starts ≡ length table + 1
  pub lists : HaveChildLists text table after starts children (length table)
