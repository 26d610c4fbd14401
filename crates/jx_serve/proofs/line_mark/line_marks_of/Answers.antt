use Rattle.std.proofs.Common.{◌∙◌, List, ap, arith, false, length, subst, take}
use Rattle.jx_ndjson.specs.declared.judged_line.JudgedLine.{JudgedLine}
use Rattle.jx_serve.specs.LineMarks.{marked, AreMarksOf}
use Rattle.jx_serve.proofs.line_mark.line_marks_of.Goals as goal

pub returns : goal.returns
returns c =
    let bad = c.in_ok-bad.ensures in
    record {
      answers = bad.answers;
      are_answers = bad.are_answers;
      are_marks =
          subst (λ (l : List JudgedLine). AreMarksOf c.args.encoding c.args.document.now.bytes l c.in_ok-marks.marks.items)
          (c.first_of.ensures ∙ ap (take 1000) (c.deref-2.ensures.value ∙ c.in_ok-marked.ensures ∙ ap (marked false) (c.deref.ensures.value ∙ bad.bad_are))) c.in_ok-marks.ensures;
      more_are = omega (arith, ap (λ (l : List JudgedLine). length l) bad.bad_are);
    }
