use Rattle.std.proofs.Common.{◌≡◌, ap, rules, subst, sym}
use Rattle.std.specs.Prelude.{Err}
use Rattle.jx_words.specs.Verdicts.{shown_output}
use Rattle.jx_files.specs.declared.file_fault.FileFault.TheVariants.{Read}
use Rattle.jx_files.specs.declared.reason.Reason.{Reason}
use Rattle.jx_files.specs.Files.{ways_of, by_reading, not_read, too_long, no_memory, IsFaultOf}
use Rattle.jx_files.proofs.reports.answer_from.Goals as goal

pub returns-in-Ok-clause-ok : goal.returns-in-Ok-clause-ok
returns-in-Ok-clause-ok g c =
    let said = c.in-Ok.ensures.ok in
    let shown : c.report.new.writer.inner.items ≡ shown_output c.args.command.now.quiet said.output = search (rules, said.wrote) in
    record { output = said.output; answered = by_reading c.report.new.reader said.text said.read said.few said.answer; shown = shown }

pub returns-in-Err-Read-clause-err : goal.returns-in-Err-Read-clause-err
returns-in-Err-Read-clause-err g c =
    let ways = ways_of (g.O.Opener.opens c.args.opener.now) (g.O.Opener.why c.args.opener.now) (g.O.Opener.shares c.args.opener.now) (g.O.Opener.may_fail c.args.opener.now) g.S.Source.remaining g.S.Source.has_failed in
    subst (λ (r : Reason). IsFaultOf ways c.args.command.now c.args.input (Read r)) (sym c.why.ensures)
    (not_read c.report.new.reader (c.in-Err-Read.ensures.read.0 (ap Err c.in-Err-Read.field-0-is)))

pub returns-in-Err-Pieces-clause-err : goal.returns-in-Err-Pieces-clause-err
returns-in-Err-Pieces-clause-err g c = too_long c.report.new.reader (c.in-Err-Pieces.ensures.pieces (ap Err c.in-Err-Pieces.field-0-is))

pub returns-clause-err : goal.returns-clause-err
returns-clause-err g c = no_memory
