-- The row that a look-up ends at shows the span of the node that the tokens lead to.
use Rattle.std.proofs.Common.{◌≡◌, ℕ, ◌-◌, List, length, Some, Result, Ok, Err, refl, sym, ap, subst, ◌∙◌, arith}
use Rattle.std.specs.Prelude.{slice_get, slice_range}
use Rattle.std.proofs.lemmas.List.{take_all}
use Rattle.jx_run.specs.Text.{IsDocument, IsText}
use Rattle.jx_run.specs.Tree.{Tree}
use Rattle.jx_index.specs.declared.find_fault.FindFault.{FindFault}
use Rattle.jx_index.specs.declared.row.Row.{Row}
use Rattle.jx_index.specs.Indexed.{IndexedValue}
use Rattle.jx_index.specs.Leads.{Numbered, HasRow, led, leads, number_of}
use Rattle.jx_index.specs.Pointers.{tokens}
use Rattle.jx_index.specs.Rows.{rows}
use Rattle.jx_answer.specs.Answers.{IsIndexOf}
use Rattle.test_examples.specs.declared.pointers.LookUp.{LookUp}
use Rattle.test_examples.specs.declared.pointers.LookUp.TheVariants.{Found, Lost, Refused}
use Rattle.test_examples.specs.LookUps.{IsSpanLed, IsSpan, IsLookUp}

module _ (text : List ℕ) (tree : Tree) (pointer : List ℕ) where
  found_by : (node : ℕ) (row : Row) (r : Result Numbered FindFault) → led text tree (tokens pointer) ≡ r → ((c : Numbered) → r ≡ Ok c → HasRow (rows tree) c)
      → Ok node ≡ number_of r → slice_get (rows tree) node ≡ Some row → IsSpanLed text tree pointer row.span
  found_by node row (Ok c) is has e g =
      let h = has c refl in
      let same : node ≡ c.number = cc in
      let both : Some h.row ≡ Some row = sym h.is_row ∙ ap (slice_get (rows tree)) (sym same) ∙ g in
      let row_is : h.row ≡ row = cc in
      record { node = c; leads = is; span_is = ap (λ (r : Row). r.span) (sym row_is) ∙ h.span }
  found_by node row (Err fault) is has e g = absurd (cc)

  pub found_at : (node : ℕ) (row : Row) → ((c : Numbered) → led text tree (tokens pointer) ≡ Ok c → HasRow (rows tree) c)
      → Ok node ≡ leads text tree (tokens pointer) → slice_get (rows tree) node ≡ Some row → IsSpanLed text tree pointer row.span
  found_at node row has e g = found_by node row (led text tree (tokens pointer)) refl has e g

  lost_by : (fault : FindFault) (r : Result Numbered FindFault) → Err fault ≡ number_of r → r ≡ Err fault
  lost_by fault (Ok c) e = absurd (cc)
  lost_by fault (Err other) e = let same : other ≡ fault = cc in cc

  pub lost_at : (fault : FindFault) → Err fault ≡ leads text tree (tokens pointer) → led text tree (tokens pointer) ≡ Err fault
  lost_at fault e = lost_by fault (led text tree (tokens pointer)) e

  pub in_bytes : (limit : ℕ) → IsDocument 0 text limit tree → (answer : LookUp) → IsSpan text tree pointer answer → IsLookUp text limit pointer answer
  in_bytes limit d (Found place) h = (tree, d, h)
  in_bytes limit d (Lost fault) h = (tree, d, h)
  in_bytes limit d (Refused refusal) h = absurd h

-- what stands at the place of an index over all bytes is their text
pub text_there : (bytes : List ℕ) (limit : ℕ) (index : IndexedValue) (x : IsIndexOf bytes limit index) → IsText index.text index.span.start index.span.end limit x.tree
text_there bytes limit index x =
    let whole : slice_range bytes 0 (length bytes) ≡ bytes = take_all (length bytes - 0) bytes (omega arith) in
    subst (λ p. IsText index.text p.start p.end limit x.tree) (sym x.span)
    (subst (λ t. IsText t 0 (length bytes) limit x.tree) (sym x.text)
    (subst (λ b. IsDocument 0 b limit x.tree) (sym whole) x.is_text))
