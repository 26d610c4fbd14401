-- What the first row of a text says of its root, and what a reading that accepts is answered by.
use Rattle.std.proofs.Common.{◌≡◌, ℕ, List, Some, None, true, sym, subst, ap, ◌∙◌}
use Rattle.std.proofs.lemmas.Option.{same_Some}
use Rattle.std.specs.Prelude.{slice_get, slice_range}
use Rattle.jx_summary.specs.declared.span.Span.{Span}
use Rattle.jx_run.specs.declared.texts.verdict.Verdict.TheVariants.{Accepted}
use Rattle.jx_run.specs.Elements.{part_span}
use Rattle.jx_run.specs.Started.{StartedValue}
use Rattle.jx_run.specs.Text.{IsText}
use Rattle.jx_run.specs.Tree.{Tree, node, span}
use Rattle.jx_run.specs.Verdict.{Judged}
use Rattle.jx_index.specs.declared.row.Row.{Row}
use Rattle.jx_index.specs.Indexed.{IndexedValue}
use Rattle.jx_index.specs.Rows.{rows}
use Rattle.jx_answer.specs.inside.Pushed.{IsReadable}
use Rattle.jx_run.specs.Unclosed.{EndsUnclosed, is_unclosed, end_of, IsAccepted}
use Rattle.jx_run.specs.MarkAlone.{part_of}
use Rattle.jx_run.proofs.VerdictLaws.{tree_in}

-- the root's own row
abbrev pub IsRoot : Row → Tree → Type 0
IsRoot row (node kind place _) = (row.kind ≡ kind) × (row.span ≡ place)

pub root_row : (tree : Tree) (table : List Row) (row : Row) → table ≡ rows tree → slice_get table 0 ≡ Some row → IsRoot row tree
root_row (node kind place _) table row h g =
    let same : row ≡ record { kind = kind; span = place; parent = None; place = 0; name = None } = same_Some _ _ (sym g ∙ ap (λ t. slice_get t 0) h) in
    (ap (λ (r : Row). r.kind) same, ap (λ (r : Row). r.span) same)

-- whether the root's row shows that its end is not shown is whether it is so
pub unclosed_root : (tree : Tree) (row : Row) (end : ℕ) → IsRoot row tree
    → ((is_unclosed row.kind ≡ true) × (row.span.end ≡ end) → EndsUnclosed tree end) × (EndsUnclosed tree end → (is_unclosed row.kind ≡ true) × (row.span.end ≡ end))
unclosed_root (node kind place _) row end r = (
  (λ h. (ap is_unclosed (sym r.0) ∙ h.0, ap (λ p. p.end) (sym r.1) ∙ h.1)),
  (λ h. (ap is_unclosed r.0 ∙ h.0, ap (λ p. p.end) r.1 ∙ h.1)),
)

-- ---- an element that is a text

pub accepted_as : (input : List ℕ) (s : StartedValue) → s.verdict ≡ Accepted → IsReadable input s
    → (tree : Tree) × IsAccepted (part_of input s.span) s.depth tree
accepted_as input s v r =
    let judged = subst (λ x. Judged s.span.start (slice_range input s.span.start s.span.end) s.depth x) v r.reading.judged in
    let t = tree_in judged in
    (t.0, record { judged = judged; is_text = t.1 })

pub text_in : (input : List ℕ) (s : StartedValue) (index : IndexedValue) (tree : Tree) → index.text ≡ input → index.span ≡ s.span
    → IsAccepted (part_of input s.span) s.depth tree → IsText index.text index.span.start index.span.end s.depth tree
text_in input s index tree t p a =
    subst (λ (b : List ℕ). IsText b index.span.start index.span.end s.depth tree) (sym t)
    (subst (λ (x : Span). IsText input x.start x.end s.depth tree) (sym p) a.is_text)

pub ends_at : (input : List ℕ) (s : StartedValue) → IsReadable input s → end_of (part_of input s.span) ≡ s.span.end
ends_at input s r = sym r.reading.long

pub spans_at : (input : List ℕ) (s : StartedValue) → IsReadable input s → part_span (part_of input s.span) ≡ s.span
spans_at input s r = ap (span s.span.start) (sym r.reading.long)
