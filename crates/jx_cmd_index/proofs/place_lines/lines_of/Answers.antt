use Rattle.std.proofs.Common.{◌≡◌, get_or, sym}
use Rattle.std.proofs.lemmas.Option.{get_or_from_slice_get}
use Rattle.jx_cmd_index.proofs.PlaceLineSteps.{lines_step, no_lines}
use Rattle.jx_cmd_index.proofs.place_lines.lines_of.Goals as goal

pub lines-init : goal.lines-init
lines-init c = no_lines c.new-bytes.result.items c.new-bytes.ensures.items

pub lines-preserved : goal.lines-preserved
lines-preserved c =
    let i = c.lines.number in
    let answers = c.args.answers.now in
    let answer = c.answer_at-answer.result in
    let is : answer ≡ get_or answers i answer = sym (get_or_from_slice_get answers i answer answer c.answer_at-answer.ensures) in
    lines_step i answers answer answer c.lines-test.true is c.lines.bytes.items c.add_answer.new.lines.items c.lines.invariant c.in_ok-add_answer.ensures
