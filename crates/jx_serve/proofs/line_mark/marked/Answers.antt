use Rattle.std.proofs.Common.{◌∙◌, false, sym}
use Rattle.jx_serve.specs.LineMarks.{marked}
use Rattle.jx_serve.proofs.Marked.{passed_over, put_on}
use Rattle.jx_serve.proofs.line_mark.marked.Goals as goal

pub loop-line-preserved-then-is_passed : goal.loop-line-preserved-then-is_passed
loop-line-preserved-then-is_passed c =
    let lines = c.args.lines.now in
    passed_over c.loop-line.seen lines c.loop-line.marked.items (marked false lines) c.loop-line.line-index _ c.loop-line-test.true
    (sym c.is_passed.ensures ∙ c.if-is_passed.true) c.loop-line.invariant

pub loop-line-preserved : goal.loop-line-preserved
loop-line-preserved c =
    let lines = c.args.lines.now in
    put_on c.loop-line.seen c.is_blank-seen.result lines c.loop-line.marked.items c.push.new.self.items (marked false lines) c.loop-line.line-index _ c.loop-line-test.true
    (sym c.is_passed.ensures ∙ c.if-is_passed.false) c.is_blank-seen.ensures c.in_ok-push.ensures.items c.loop-line.invariant
