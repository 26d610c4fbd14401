use Rattle.std.proofs.Common.{◌≡◌, ◌^◌, ◌<◌, List, length, refl, ap, subst}
use Rattle.std.specs.List.{AllByRecursion}
use Rattle.jx_reduce.specs.Structure.{StructureValue}
use Rattle.jx_summary.specs.declared.span.Span.{Span}
use Rattle.jx_portion.specs.inside.Said.{IsSaid}
use Rattle.jx_portion.specs.Spelling.{AreSpelt, IsNumber, TransitionFits}
use Rattle.jx_portion.proofs.Said.{said_fit, several_said}
use Rattle.jx_portion.proofs.encoding.body_of.Goals as goal

pub returns-clause-fits : goal.returns-clause-fits
returns-clause-fits c = (
  c.in_ok-put_optional.ensures.fits,
  subst IsNumber (ap (λ (s : Span). s.end) c.span.ensures.span) c.put.ensures.fits,
  subst (AreSpelt TransitionFits) c.transitions.ensures.transitions c.in_ok-put_several.ensures.fits,
  said_fit c.args.whole.now.structures
      (subst (λ (ss : List StructureValue). length ss < 2 ^ 64) c.structures.ensures.structures c.put_structures.ensures.few)
      (subst (AllByRecursion IsSaid) c.structures.ensures.structures c.in_ok-put_structures.ensures.said),
)

pub returns-clause-put : goal.returns-clause-put
returns-clause-put c =
    let end : c.span.result.end ≡ c.args.whole.now.end = ap (λ (s : Span). s.end) c.span.ensures.span in
    rw (c.in_ok-put_structures.ensures.put, c.in_ok-put_several.ensures.put, c.in_ok-put.ensures.put, c.in_ok-put_optional.ensures.put, c.new-body.ensures.items, end, c.transitions.ensures.transitions, c.structures.ensures.structures, several_said c.args.whole.now.structures) refl
