use Rattle.std.proofs.Common.{◌+◌, List, [], take, sym, subst}
use Rattle.std.specs.List.{AllZip}
use Rattle.jx_serve.specs.LineMarks.{IsMarkOf}
use Rattle.jx_serve.specs.declared.line_mark.LineMark.{LineMark}
use Rattle.jx_serve.proofs.AllShown.{zip_more, zip_whole}
use Rattle.jx_serve.proofs.line_mark.marks_of.Goals as goal

pub loop-line-init : goal.loop-line-init
loop-line-init c =
    let R = IsMarkOf c.args.encoding c.args.document.now.bytes in
    subst (λ (xs : List LineMark). AllZip R [] xs) (sym c.new-marks.ensures.items) tt

pub loop-line-preserved : goal.loop-line-preserved
loop-line-preserved c =
    let l = c.loop-line in
    let R = IsMarkOf c.args.encoding c.args.document.now.bytes in
    subst (λ (xs : List LineMark). AllZip R (take (l.line-index + 1) c.args.lines.now) xs) (sym c.in_ok-push.ensures.items)
    (zip_more R c.args.lines.now l.marks.items l.line-index _ c.in_ok-mark.mark c.loop-line-test.true l.invariant c.in_ok-mark.ensures)

pub returns : goal.returns
returns c =
    let R = IsMarkOf c.args.encoding c.args.document.now.bytes in
    zip_whole R c.args.lines.now c.loop-line.marks.items c.loop-line.line-index c.loop-line-test.false c.loop-line.invariant
