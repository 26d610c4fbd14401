use Rattle.std.proofs.Common.{◌≡◌, ◌∙◌, get_or, sym}
use Rattle.std.proofs.lemmas.Option.{get_or_from_slice_get}
use Rattle.jx_parallel_report.proofs.Elements.{exit_step, exit_done}
use Rattle.jx_parallel_report.proofs.elements_part.exit_of.Goals as goal

pub loop-number-preserved : goal.loop-number-preserved
loop-number-preserved c =
    let i = c.loop-number.number in
    let elements = c.args.elements.now in
    let element = c.element_at-element.result in
    let is : element ≡ get_or elements i element = sym (get_or_from_slice_get elements i element element c.element_at-element.ensures) in
    exit_step i elements element element c.loop-number.exit c.exit_past-exit.result c.loop-number-test.true is c.exit_past-exit.ensures ∙ c.loop-number.invariant

pub returns : goal.returns
returns c = sym (exit_done c.loop-number.number c.args.elements.now c.loop-number.exit c.loop-number-test.false) ∙ c.loop-number.invariant
