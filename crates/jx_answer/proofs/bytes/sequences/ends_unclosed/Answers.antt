use Rattle.std.proofs.Common.{◌≡◌, ℕ, nat_eq, IsTrue, refl, sym, ap, ◌∙◌, arith}
use Rattle.std.specs.Prelude.{slice_get}
use Rattle.std.proofs.lemmas.Bool.Decides.{nat_tests}
use Rattle.jx_index.specs.Rows.{rows}
use Rattle.jx_answer.proofs.Roots.{root_row, unclosed_root}
use Rattle.jx_answer.proofs.bytes.sequences.ends_unclosed.Goals as goal

same_of : (a b : ℕ) → IsTrue (nat_eq a b) → a ≡ b
same_of a b h = grind (arith, nat_tests)

of_same : (a b : ℕ) → a ≡ b → IsTrue (nat_eq a b)
of_same a b h = grind (arith, nat_tests)

pub returns-then-is_unclosed : goal.returns-then-is_unclosed
returns-then-is_unclosed c limit tree is_text =
    let index = c.args.index.now in
    let row = c.row-root.result.now in
    let r = root_row tree (rows tree) row refl (ap (slice_get (rows tree)) (sym c.root.ensures.first) ∙ c.row-root.ensures.tree limit tree is_text) in
    let u = unclosed_root tree row index.span.end r in
    let end = ap (λ p. p.end) c.span.ensures in (
      (λ h. u.0 (sym c.is_unclosed.ensures ∙ c.if-is_unclosed.true, same_of row.span.end c.span.result.end h ∙ end)),
      (λ h. of_same row.span.end c.span.result.end ((u.1 h).1 ∙ sym end)),
    )

pub returns-else-is_unclosed : goal.returns-else-is_unclosed
returns-else-is_unclosed c limit tree is_text =
    let index = c.args.index.now in
    let row = c.row-root.result.now in
    let r = root_row tree (rows tree) row refl (ap (slice_get (rows tree)) (sym c.root.ensures.first) ∙ c.row-root.ensures.tree limit tree is_text) in
    let u = unclosed_root tree row index.span.end r in
    ((λ h. absurd (cc (h, c.if-is_unclosed.false))), (λ h. c.is_unclosed.ensures ∙ (u.1 h).0))
