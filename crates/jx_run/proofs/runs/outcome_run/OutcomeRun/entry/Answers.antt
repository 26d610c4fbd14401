use Rattle.std.proofs.Common.{◌≡◌, Some, sym, ap, ◌∙◌}
use Rattle.jx_run.specs.OutcomeRun.{Entries}
use Rattle.jx_run.proofs.RunVerdict.{entry_reads}
use Rattle.jx_run.proofs.Transitions.{entries_are}
use Rattle.jx_run.proofs.runs.outcome_run.OutcomeRun.entry.Goals as goal

pub returns-clause-marks : goal.returns-clause-marks
returns-clause-marks c e h =
    let w = c.transition_from-transition.result in
    let mine : Entries = record { exit = w.exit; marks = c.structure-structure.result.now } in
    let is : Some mine ≡ Some e = sym (entries_are c.args.self.now c.args.state w mine.marks c.transition_from-transition.ensures.transition c.structure-structure.ensures.structure) ∙ h in
    let same : mine ≡ e = cc in
    c.entry.ensures.entry ∙ ap (λ (x : Entries). record { structure = x.marks; expect = c.args.expect }) same

pub returns-clause-reads : goal.returns-clause-reads
returns-clause-reads c bytes h o short =
    let w = c.transition_from-transition.result in
    let mine : Entries = record { exit = w.exit; marks = c.structure-structure.result.now } in
    entry_reads c.args.self.now c.args.state c.args.expect mine
    (entries_are c.args.self.now c.args.state w mine.marks c.transition_from-transition.ensures.transition c.structure-structure.ensures.structure)
    c.entry.result c.entry.ensures.entry bytes h o short
