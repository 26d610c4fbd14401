use Rattle.std.proofs.Common.{◌+◌, ◌-◌, sym, ap, ◌∙◌, subst, ⊎_elim, inl, inr}
use Rattle.jx_summary.specs.declared.span.Span.{Span}
use Rattle.jx_book.specs.declared.stored.state.Put.{Put}
use Rattle.jx_book.specs.declared.stored.state.Put.TheVariants.{Touches}
use Rattle.jx_book.specs.Shares.{share, IsShared}
use Rattle.jx_book.specs.Puts.{IsPut}
use Rattle.jx_book.proofs.lock.locked.Locked.put.Goals as goal

pub returns-in-Touches : goal.returns-in-Touches
returns-in-Touches g c =
    let X = g.row.S.Denot in
    let r = c.in-Touches.field-0 in
    let n = c.in-Touches.neighbour in
    let was = c.args.share.now in
    let put : IsPut c.args.self.now.state c.args.run (Touches r n) c.put-answer.new.self = subst (λ (a : Put X). IsPut c.args.self.now.state c.args.run a c.put-answer.new.self) c.in-Touches.is c.put-answer.ensures in
    let touch = ⊎_elim (λ e. inl e) (λ t. inr (sym t.0)) put.1.removed.1.1 in
    let now = c.add_taken.ensures.share ∙ ap (λ (p : Span). share was.put (was.taken + (p.end - p.start))) c.span-taken.ensures.span in
    subst (λ (a : Put X). IsShared was c.args.run a c.add_taken.new.self) (sym c.in-Touches.is) (put.0, touch, put.1.filled, now)
