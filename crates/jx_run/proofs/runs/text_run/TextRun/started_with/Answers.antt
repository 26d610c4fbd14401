use Rattle.std.proofs.Common.{◌≡◌, ◌++◌, sym, subst, ap, ◌∙◌, arith}
use Rattle.std.proofs.lemmas.List.{length-append}
use Rattle.jx_summary.specs.declared.span.Span.{Span}
use Rattle.jx_lex.specs.declared.alphabet.state.LexState.TheVariants.{Gap}
use Rattle.jx_lex.specs.Lex.{lex}
use Rattle.jx_run.specs.Started.{IsStarted}
use Rattle.jx_run.specs.TextRun.{TextRunValue, IsTextRun}
use Rattle.jx_run.specs.Verdict.{Judged}
use Rattle.jx_run.proofs.TextRuns.{outcomes_are_of}
use Rattle.jx_run.proofs.runs.text_run.TextRun.started_with.Goals as goal

pub returns-clause-started : goal.returns-clause-started
returns-clause-started c xs ys h k =
    let l = c.self.inside in
    let r = c.right.inside in
    let h' = subst (IsTextRun xs) (sym c.self.view_is) h in
    let k' = subst (IsTextRun ys) (sym c.right.view_is) k in
    let here = ap (λ (s : Span). s.start) c.span.ensures.value in
    let there = ap (λ (s : Span). s.end) c.span-2.ensures.value in
    let mine : c.span.result.start ≡ c.args.self.now.map.start = here ∙ ap (λ (v : TextRunValue). v.map.start) c.self.view_is in
    let last : c.span-2.result.end ≡ c.args.right.now.map.end = there ∙ ap (λ (v : TextRunValue). v.map.end) c.right.view_is in
    let depth = c.depth.ensures.depth in
    let n = length-append xs ys in
    let a = h.long in
    let b = k.long in
    let mid = c.requires.neighbours in
    subst (IsStarted (xs ++ ys)) (sym c.new.ensures)
    (record {
      long = omega (arith, mine, last, n, a, b, mid);
      marks = c.in_ok-marks.ensures.marks xs ys h k ∙ ap (λ i. (lex Gap i (xs ++ ys)).marks) (sym mine);
      ends = c.in_ok-marks.ensures.ends xs ys h k ∙ ap (λ i. (lex Gap i (xs ++ ys)).ends) (sym mine);
      judged =
          subst (λ d. Judged c.span.result.start (xs ++ ys) d c.in_ok-verdict.verdict) (sym (depth ∙ sym (ap (λ (v : TextRunValue). v.depth) c.self.view_is)))
          (subst (λ i. Judged i (xs ++ ys) l.outcomes.depth c.in_ok-verdict.verdict) (c.self.invariant.0 ∙ sym here)
          (c.in_ok-verdict.ensures.verdict xs ys (outcomes_are_of l.map l.outcomes c.self.invariant.0 c.self.invariant.1 xs h')
          (outcomes_are_of r.map r.outcomes c.right.invariant.0 c.right.invariant.1 ys k')));
    })
