use Rattle.std.proofs.Common.{sym, subst}
use Rattle.jx_lex.specs.declared.alphabet.state.LexState.TheVariants.{Gap}
use Rattle.jx_run.specs.OutcomeRun.{Entries}
use Rattle.jx_run.specs.Verdict.{Judged}
use Rattle.jx_run.proofs.RunVerdict.{run_judged}
use Rattle.jx_run.proofs.Transitions.{entries_are}
use Rattle.jx_run.proofs.runs.outcome_run.OutcomeRun.verdict.Goals as goal

pub returns : goal.returns
returns c =
    let w = c.transition_from-transition.result in
    let e : Entries = record { exit = w.exit; marks = c.structure-structure.result.now } in
    record {
      verdict = λ bytes h.
          subst (Judged c.args.self.now.start bytes c.args.self.now.depth) (sym c.verdict_of.ensures)
          (run_judged c.reader_and_grammar.ensures.verdict c.args.self.now e (entries_are c.args.self.now Gap w e.marks c.transition_from-transition.ensures.transition c.structure-structure.ensures.structure) bytes h);
    }
