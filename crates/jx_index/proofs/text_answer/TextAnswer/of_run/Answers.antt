use Rattle.std.proofs.Common.{ℕ, ap, sym, subst, ◌∙◌}
use Rattle.std.specs.Prelude.{slice_range}
use Rattle.jx_run.specs.declared.texts.verdict.Verdict.TheVariants.{Accepted}
use Rattle.jx_run.specs.Text.{IsText}
use Rattle.jx_run.specs.TextRun.{IsTextRun}
use Rattle.jx_run.specs.Tree.{span}
use Rattle.jx_run.specs.Verdict.{Judged}
use Rattle.jx_index.specs.Settled.{rest_from}
use Rattle.jx_index.proofs.text_answer.TextAnswer.of_run.Goals as goal

pub of_run-requires-clause-of : goal.of_run-requires-clause-of
of_run-requires-clause-of c =
    let run = c.args.run.now in
    subst (λ (n : ℕ). IsTextRun (slice_range c.args.text.now run.map.start n) run) (sym c.requires.end) c.requires.of

pub of_run-requires-clause-accepted : goal.of_run-requires-clause-accepted
of_run-requires-clause-accepted c =
    let text = c.args.text.now in
    let run = c.args.run.now in
    subst (λ (n : ℕ). Judged run.map.start (slice_range text run.map.start n) run.depth Accepted) (sym c.requires.end)
    (subst (Judged run.map.start (rest_from run.map.start text) run.depth) c.in-Accepted.is (c.verdict.ensures.verdict (rest_from run.map.start text) c.requires.of))

pub returns-in-Refused : goal.returns-in-Refused
returns-in-Refused c =
    let text = c.args.text.now in
    let run = c.args.run.now in
    record { answer = subst (Judged run.map.start (rest_from run.map.start text) run.depth) c.in-Refused.is (c.verdict.ensures.verdict (rest_from run.map.start text) c.requires.of) }

pub returns-in_ok-index-in-Accepted : goal.returns-in_ok-index-in-Accepted
returns-in_ok-index-in-Accepted c =
    let text = c.args.text.now in
    let run = c.args.run.now in
    let start = run.map.start in
    let index = c.in_ok-index-in-Accepted.index in
    let e = c.in_ok-index-in-Accepted.ensures in
    let judged = subst (Judged start (rest_from start text) run.depth) c.in-Accepted.is (c.verdict.ensures.verdict (rest_from start text) c.requires.of) in
    record {
      answer = (
        judged,
        c.index_behind_a_front.ensures.over text start run.depth index judged e.text (e.span ∙ ap (λ (n : ℕ). span start n) c.requires.end)
            (λ limit tree t. e.rows limit tree (subst (λ (n : ℕ). IsText text start n limit tree) (sym c.requires.end) t)),
      );
    }
