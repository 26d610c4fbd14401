use Rattle.jx_files.specs.Files.{ways_of, IsFaultOf}
use Rattle.jx_files.specs.inside.Parts.{IsAnsweredFrom, IsAnsweredThere, IsFaultThere}
use Rattle.jx_files.proofs.Answered.{answered_there, fault_there, of_error, of_value}
use Rattle.jx_files.proofs.reports.answer_to.Goals as goal

pub returns-in-Ok-clause-ok : goal.returns-in-Ok-clause-ok
returns-in-Ok-clause-ok g c =
    let ways = ways_of (g.O.Opener.opens c.args.opener.now) (g.O.Opener.why c.args.opener.now) (g.O.Opener.shares c.args.opener.now) (g.O.Opener.may_fail c.args.opener.now) g.S.Source.remaining g.S.Source.has_failed in
    let known = g.F.SharedAt.content c.in-Ok.shared in
    of_value (IsAnsweredThere c.args.command.now known) (IsAnsweredFrom ways c.args.command.now c.args.input) c.answer_at.result c.answer_at.ensures.ok
    (answered_there ways c.args.command.now c.args.input (c.in-Ok.ensures.shares, c.is_shared.ensures c.if-not-is_shared.false) known c.in-Ok.ensures.content)

pub returns-in-Ok-clause-err : goal.returns-in-Ok-clause-err
returns-in-Ok-clause-err g c =
    let ways = ways_of (g.O.Opener.opens c.args.opener.now) (g.O.Opener.why c.args.opener.now) (g.O.Opener.shares c.args.opener.now) (g.O.Opener.may_fail c.args.opener.now) g.S.Source.remaining g.S.Source.has_failed in
    let may_fail = g.F.SharedAt.may_fail c.in-Ok.shared in
    of_error (IsFaultThere may_fail) (IsFaultOf ways c.args.command.now c.args.input) c.answer_at.result c.answer_at.ensures.err
    (fault_there ways c.args.command.now c.args.input (c.in-Ok.ensures.shares, c.is_shared.ensures c.if-not-is_shared.false) may_fail c.in-Ok.ensures.fault)
