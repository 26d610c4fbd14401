use Rattle.jx_files.specs.Files.{not_opened, ways_of, IsFaultAt, IsFaultOf}
use Rattle.jx_files.specs.inside.Parts.{IsAnsweredBy, IsAnsweredFrom}
use Rattle.jx_files.proofs.Answered.{answered_on, fault_on, of_error, of_value}
use Rattle.jx_files.proofs.reports.answer_on.Goals as goal

pub returns-in-Err-clause-err : goal.returns-in-Err-clause-err
returns-in-Err-clause-err g c = not_opened c.in-Err.fault c.in-Err.ensures.gives

pub returns-in-Ok-clause-ok : goal.returns-in-Ok-clause-ok
returns-in-Ok-clause-ok g c =
    let ways = ways_of (g.O.Opener.opens c.args.opener.now) (g.O.Opener.why c.args.opener.now) (g.O.Opener.shares c.args.opener.now) (g.O.Opener.may_fail c.args.opener.now) g.S.Source.remaining g.S.Source.has_failed in
    let command = c.args.command.now in
    let word = c.args.word.now in
    of_value (IsAnsweredFrom ways command c.in-Ok.input) (IsAnsweredBy ways command word) c.answer_to.result c.answer_to.ensures.ok
    (answered_on ways command c.in-Ok.input word c.in-Ok.ensures.gives)

pub returns-in-Ok-clause-err : goal.returns-in-Ok-clause-err
returns-in-Ok-clause-err g c =
    let ways = ways_of (g.O.Opener.opens c.args.opener.now) (g.O.Opener.why c.args.opener.now) (g.O.Opener.shares c.args.opener.now) (g.O.Opener.may_fail c.args.opener.now) g.S.Source.remaining g.S.Source.has_failed in
    let command = c.args.command.now in
    let word = c.args.word.now in
    of_error (IsFaultOf ways command c.in-Ok.input) (IsFaultAt ways command word) c.answer_to.result c.answer_to.ensures.err
    (fault_on ways command c.in-Ok.input word c.in-Ok.ensures.gives)
