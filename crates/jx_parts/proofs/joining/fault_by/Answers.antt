use Rattle.std.proofs.Common.{sym, ◌∙◌}
use Rattle.jx_parts.proofs.Refused.{apart_first, apart_next, apart_place}
use Rattle.jx_parts.proofs.joining.fault_by.Goals as goal

pub returns-in-Place-clause-apart : goal.returns-in-Place-clause-apart
returns-in-Place-clause-apart c =
    apart_place c.args.joined.now c.args.next.now c.args.number c.start-at.result c.end-due.result c.args.mismatch c.requires.mismatch c.in-Place.is c.start-at.ensures c.end-due.ensures.value

pub returns-in-Some-clause-apart : goal.returns-in-Some-clause-apart
returns-in-Some-clause-apart c =
    apart_first c.args.joined.now c.args.next.now c.args.number _ c.args.mismatch c.requires.mismatch c.in-Froms.is (sym c.from.ensures ∙ c.in-Some.is)

pub returns-in-None-clause-apart : goal.returns-in-None-clause-apart
returns-in-None-clause-apart c =
    apart_next c.args.joined.now c.args.next.now c.args.number c.args.mismatch c.requires.mismatch c.in-Froms.is (sym c.from.ensures ∙ c.in-None.is)
