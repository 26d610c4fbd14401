use Rattle.std.proofs.Common.{◌++◌, sym, subst}
use Rattle.jx_run.specs.OutcomeRun.{Entries}
use Rattle.jx_run.specs.Verdict.{Judged}
use Rattle.jx_run.proofs.RunVerdict.{judged_through}
use Rattle.jx_run.proofs.runs.outcome_run.OutcomeRun.verdict_with.Goals as goal

pub returns : goal.returns
returns c =
    let l = c.args.self.now in
    let r = c.args.right.now in
    let onward = c.onward-exit.ensures in
    let made = c.in_ok-structure.ensures in
    let e : Entries = onward.from.0 in
    let j : Entries = record { exit = c.onward-exit.result.0; marks = c.in_ok-structure.structure } in
    record {
      verdict = λ xs ys h k.
          subst (Judged l.start (xs ++ ys) l.depth) (sym c.verdict_of.ensures)
          (judged_through c.reader_and_grammar.ensures.verdict l r e j onward.from.1 (onward.goes e c.in_ok-structure.structure onward.from.1 made.within.depth made.made) c.requires.depth c.requires.neighbours xs ys h k);
    }
