-- What the fields of an index say of its rows.
use Rattle.std.proofs.Common.{◌≡◌, ℕ, ◌<◌, max, List, length, sym, ap, subst, ◌∙◌, arith, None}
use Rattle.jx_summary.specs.declared.span.Span.{Span}
use Rattle.jx_run.specs.Text.{IsDocument, IsText}
use Rattle.jx_run.specs.Tree.{Tree}
use Rattle.jx_index.specs.declared.row.Row.{Row}
use Rattle.jx_index.specs.Indexed.{IndexedValue, IsIndexed}
use Rattle.jx_index.specs.Leads.{leads}
use Rattle.jx_index.specs.Names.{IsInNameOrder}
use Rattle.jx_index.specs.ChildLists.{child_list}
use Rattle.jx_index.specs.Nodes.{IsArrayAt, IsObjectAt, child_numbers}
use Rattle.jx_index.specs.Rows.{rows}
use Rattle.jx_index.specs.RowsLead.{rows_lead}
use Rattle.jx_index.specs.Standing.{root_standing, itself}
use Rattle.jx_index.specs.Walk.{IsForward, IsBounded, walk_children}
use Rattle.jx_index.proofs.Bridge.{leads_are, array_row, object_row}
use Rattle.jx_index.proofs.Builds.{size-length}
use Rattle.jx_index.proofs.NamedTrees.{text_named}
use Rattle.jx_index.proofs.Parents.{size-positive}
use Rattle.jx_index.proofs.Shapes.{forward_of, bounded_of, walk_children_are}

-- a text has one tree, also where it is read within two depths
pub one_of_any : ((at limit : ℕ) (bytes : List ℕ) (x y : Tree) → IsDocument at bytes limit x → IsDocument at bytes limit y → x ≡ y)
    → (at low high : ℕ) (bytes : List ℕ) (x y : Tree) → IsDocument at bytes low x → IsDocument at bytes high y → x ≡ y
one_of_any one at low high bytes x y d e =
    let a = d.within in
    let b = e.within in
    one at (max low high) bytes x y (record { reads = d.reads; within = omega (arith, a) }) (record { reads = e.reads; within = omega (arith, b) })

module _ (text : List ℕ) (span : Span) (table : List Row) (after starts children : List ℕ) (x : IsIndexed text span table after starts children) where
  pub tree_rows : (limit : ℕ) (tree : Tree) → IsText text span.start span.end limit tree → table ≡ rows tree
  tree_rows limit tree t = x.rows_are ∙ ap rows (x.one_tree limit tree t)

  pub has_root : 0 < length table
  has_root =
      let s = size-positive x.tree in
      omega (arith, ap length x.rows_are, size-length x.tree 0 None 0 None)

  pub goes_forward : IsForward after
  goes_forward = subst IsForward (sym x.after_are) (forward_of x.tree)

  pub stays_bounded : IsBounded after
  stays_bounded = subst IsBounded (sym x.after_are) (bounded_of x.tree)

  pub walk_is : (node : ℕ) → walk_children after node ≡ child_numbers table node
  walk_is node = ap (λ a. walk_children a node) x.after_are ∙ walk_children_are x.tree node ∙ sym (ap (λ t. child_numbers t node) x.rows_are)

  pub names_are : (node : ℕ) → IsObjectAt table node → IsInNameOrder text table (child_numbers table node) (child_list starts children node)
  names_are node h = subst (λ c. IsInNameOrder text table c (child_list starts children node)) (walk_is node) ((x.lists node (object_row table node h)).by_name h)

  pub elements_are : (node : ℕ) → IsArrayAt table node → child_list starts children node ≡ child_numbers table node
  elements_are node h = (x.lists node (array_row table node h)).by_place h ∙ walk_is node

  -- the same where the value of an index is at hand, and its lists come from elsewhere
  pub names_shown : (v : IndexedValue) → record { text = text; span = span; rows = table } ≡ v → (node : ℕ) → IsObjectAt v.rows node
      → (s m names : List ℕ) → s ≡ starts → m ≡ children → names ≡ child_list s m node → IsInNameOrder v.text v.rows (child_numbers v.rows node) names
  names_shown v e node h s m names es em en =
      subst (IsInNameOrder v.text v.rows (child_numbers v.rows node))
      (ap (λ y. child_list y children node) (sym es) ∙ ap (λ y. child_list s y node) (sym em) ∙ sym en)
      (subst (λ (w : IndexedValue). IsInNameOrder w.text w.rows (child_numbers w.rows node) (child_list starts children node)) e
      (names_are node (subst (λ (w : IndexedValue). IsObjectAt w.rows node) (sym e) h)))

  pub elements_shown : (v : IndexedValue) → record { text = text; span = span; rows = table } ≡ v → (node : ℕ) → IsArrayAt v.rows node
      → (s m elements : List ℕ) → s ≡ starts → m ≡ children → elements ≡ child_list s m node → elements ≡ child_numbers v.rows node
  elements_shown v e node h s m elements es em en =
      en
      ∙ ap (λ y. child_list s y node) em
      ∙ ap (λ y. child_list y children node) es
      ∙ subst (λ (w : IndexedValue). child_list starts children node ≡ child_numbers w.rows node) e
      (elements_are node (subst (λ (w : IndexedValue). IsArrayAt w.rows node) (sym e) h))

-- the look-up over the rows is that over the tree
pub tree_leads : (text : List ℕ) (table : List Row) (a b limit : ℕ) (tree : Tree) → IsText text a b limit tree → table ≡ rows tree → (tokens : List (List ℕ))
    → rows_lead text table tokens 0 0 ≡ leads text tree tokens
tree_leads text table a b limit tree t e tokens =
    ap (λ r. rows_lead text r tokens 0 0) e ∙ sym (leads_are text tree (text_named t.reads) tokens None tree root_standing itself 0)
