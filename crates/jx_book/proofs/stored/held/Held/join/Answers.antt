use Rattle.std.proofs.Common.{◌≡◌, ℕ, List, ◌≤◌, length, sym, ap, ◌∙◌, subst, arith}
use Rattle.std.specs.Prelude.{slice_range}
use Rattle.jx_summary.specs.declared.span.Span.{Span}
use Rattle.jx_book.specs.Joined.{IsCommon}
use Rattle.jx_book.proofs.Ranges.{join_parts}
use Rattle.jx_book.proofs.stored.held.Held.join.Goals as goal

pub invariant_of-result : goal.invariant_of-result
invariant_of-result g c =
    let l = c.self.inside in
    let r = c.right.inside in
    let p : Span = g.S.Summary.span l.run in
    let q : Span = g.S.Summary.span r.run in
    let t : List ℕ = c.in-Some.longer.now in
    let joined : Span = record { start = p.start; end = q.end } in
    let meet : p.end ≡ q.start = ap (λ v. v.span.end) c.self.view_is ∙ c.requires.neighbours ∙ sym (ap (λ v. v.span.start) c.right.view_is) in
    let common : IsCommon l.text.now r.text.now p q t = subst (λ (s : Span × Span). IsCommon l.text.now r.text.now s.0 s.1 t) (λ i. (c.span.ensures.span i, c.span-2.ensures.span i)) c.in-Some.ensures.some in
    let right : g.S.Summary.is_of r.run (slice_range r.text.now p.end q.end) = subst (λ (m : ℕ). g.S.Summary.is_of r.run (slice_range r.text.now m q.end)) (sym meet) c.right.invariant.2 in
    let same_right : slice_range r.text.now p.end q.end ≡ slice_range t p.end q.end = rw meet common.right in
    let of : g.S.Summary.is_of c.in-Ok.run' (slice_range t p.start q.end) =
    join_parts (g.S.Summary.is_of l.run) (g.S.Summary.is_of r.run) (g.S.Summary.is_of c.in-Ok.run') l.text.now r.text.now t p.start p.end q.end
    c.self.invariant.0 (omega (arith, meet, c.right.invariant.0)) c.in-Ok.ensures.of c.self.invariant.2 right common.left same_right in
    subst (λ (s : Span). (s.start ≤ s.end) × (s.end ≤ length t) × g.S.Summary.is_of c.in-Ok.run' (slice_range t s.start s.end)) (sym c.in-Ok.ensures.span)
    (omega (arith, meet, c.self.invariant.0, c.right.invariant.0), common.within, of)
