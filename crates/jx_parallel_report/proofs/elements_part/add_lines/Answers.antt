use Rattle.std.proofs.Common.{◌≡◌, ◌∙◌, get_or, sym}
use Rattle.std.proofs.lemmas.Option.{get_or_from_slice_get}
use Rattle.jx_parallel_report.proofs.Elements.{lines_step, lines_done}
use Rattle.jx_parallel_report.proofs.elements_part.add_lines.Goals as goal

pub loop-number-preserved : goal.loop-number-preserved
loop-number-preserved c =
    let i = c.loop-number.number in
    let elements = c.args.elements.now in
    let element = c.element_at-element.result in
    let is : element ≡ get_or elements i element = sym (get_or_from_slice_get elements i element element c.element_at-element.ensures) in
    lines_step i elements element element c.loop-number.words.items c.add_element.new.out.items c.loop-number-test.true is c.in_ok-add_element.ensures ∙ c.loop-number.invariant

pub returns : goal.returns
returns c = sym (lines_done c.loop-number.number c.args.elements.now c.loop-number.words.items c.loop-number-test.false) ∙ c.loop-number.invariant
