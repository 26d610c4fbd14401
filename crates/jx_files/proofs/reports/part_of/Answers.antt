use Rattle.std.proofs.Common.{◌≡◌, ℕ, List, [], ◌++◌, codes, ap, ◌∙◌, subst, sym}
use Rattle.jx_words.specs.Verdicts.{shown_output}
use Rattle.jx_files.specs.declared.status.Status.{Status}
use Rattle.jx_files.specs.Files.{ways_of, answered, no_memory, not_answered, part, IsReportedAt}
use Rattle.jx_files.specs.Naming.{named}
use Rattle.jx_words.specs.Showing.{shown}
use Rattle.jx_files.specs.Status.{status_of}
use Rattle.jx_files.proofs.reports.part_of.Goals as goal

pub returns-in-Ok-clause-ok : goal.returns-in-Ok-clause-ok
returns-in-Ok-clause-ok g c =
    let ways = ways_of (g.O.Opener.opens c.args.opener.now) (g.O.Opener.why c.args.opener.now) (g.O.Opener.shares c.args.opener.now) (g.O.Opener.may_fail c.args.opener.now) g.S.Source.remaining g.S.Source.has_failed in
    let command = c.args.command.now in
    let word : List ℕ = c.args.word.now in
    let by = c.in_ok-answer.ensures.ok in
    let lines : c.in-Ok.lines.items ≡ part word (shown_output command.quiet by.output) =
    c.in-Ok.ensures ∙ ap (λ (x : List ℕ). named (shown word ++ codes ": ") x) (c.deref.ensures.value ∙ by.shown) in
    subst (λ (s : Status). IsReportedAt ways command word c.in-Ok.lines.items [] s) (sym c.of_exit.ensures)
    (subst (λ (x : List ℕ). IsReportedAt ways command word x [] (status_of c.in_ok-answer.answer.exit)) (sym lines) (answered by.answered))

pub returns-clause-err : goal.returns-clause-err
returns-clause-err g c = let by = c.in_ok-answer.ensures.ok in not_answered _ by.answered.input by.answered.opened no_memory
