use Rattle.std.proofs.Common.{sym, subst, ◌∙◌}
use Rattle.std.proofs.lemmas.Result.{IfOk-weaker}
use Rattle.jx_portion.specs.Portion.{PortionValue, IsPortion}
use Rattle.jx_portion.proofs.Said.{record_is}
use Rattle.jx_portion.proofs.portion.Portion.encode.Goals as goal

pub returns : goal.returns
returns c =
    let p : PortionValue = record { from = c.self.inside.from; run = c.self.inside.run } in
    IfOk-weaker c.sealed_of.result _ _ (λ r h bytes f d is.
    record_is p c.in_ok-whole.whole c.deref.result.now r.items c.depth.result c.in_ok-whole.ensures.start c.in_ok-whole.ensures.end c.in_ok-whole.ensures.depth c.in_ok-whole.ensures.of
    c.in_ok-body.ensures.kept c.self.invariant.0 c.self.invariant.1 c.in_ok-body.ensures.said c.in_ok-body.ensures.fits (c.deref.ensures.value ∙ c.in_ok-body.ensures.put) c.depth.ensures.depth c.sealed_of.ensures.low c.sealed_of.ensures.size h
    bytes f d (subst (IsPortion bytes f d) (sym c.self.view_is) is)) c.sealed_of.ensures.sealed
