-- The row that a look-up in an index ends at shows the kind and span of the node that the tokens lead to.
use Rattle.std.proofs.Common.{◌≡◌, ℕ, List, Some, Result, Ok, Err, refl, sym, ap, ◌∙◌}
use Rattle.std.specs.Prelude.{slice_get}
use Rattle.jx_run.specs.Tree.{Tree}
use Rattle.jx_index.specs.declared.find_fault.FindFault.{FindFault}
use Rattle.jx_index.specs.declared.row.Row.{Row}
use Rattle.jx_index.specs.Leads.{Numbered, HasRow, led, leads, number_of}
use Rattle.jx_index.specs.Pointers.{tokens}
use Rattle.jx_index.specs.Rows.{rows}
use Rattle.jx_c.specs.LookUps.{IsFoundIn}

module _ (text : List ℕ) (tree : Tree) (pointer : List ℕ) where
  found_by : (node : ℕ) (row : Row) (r : Result Numbered FindFault) → led text tree (tokens pointer) ≡ r → ((c : Numbered) → r ≡ Ok c → HasRow (rows tree) c)
      → Ok node ≡ number_of r → slice_get (rows tree) node ≡ Some row → IsFoundIn text tree pointer row.kind row.span
  found_by node row (Ok c) is has e g =
      let h = has c refl in
      let same : node ≡ c.number = cc in
      let both : Some h.row ≡ Some row = sym h.is_row ∙ ap (slice_get (rows tree)) (sym same) ∙ g in
      let row_is : h.row ≡ row = cc in
      record { node = c; leads = is; kind_is = ap (λ (r : Row). r.kind) (sym row_is) ∙ h.kind; span_is = ap (λ (r : Row). r.span) (sym row_is) ∙ h.span }
  found_by node row (Err fault) is has e g = absurd (cc)

  pub found_at : (node : ℕ) (row : Row) → ((c : Numbered) → led text tree (tokens pointer) ≡ Ok c → HasRow (rows tree) c)
      → Ok node ≡ leads text tree (tokens pointer) → slice_get (rows tree) node ≡ Some row → IsFoundIn text tree pointer row.kind row.span
  found_at node row has e g = found_by node row (led text tree (tokens pointer)) refl has e g

  lost_by : (fault : FindFault) (r : Result Numbered FindFault) → Err fault ≡ number_of r → r ≡ Err fault
  lost_by fault (Ok c) e = absurd (cc)
  lost_by fault (Err other) e = let same : other ≡ fault = cc in cc

  pub lost_at : (fault : FindFault) → Err fault ≡ leads text tree (tokens pointer) → led text tree (tokens pointer) ≡ Err fault
  lost_at fault e = lost_by fault (led text tree (tokens pointer)) e
