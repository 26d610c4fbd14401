use Rattle.std.proofs.Common.{sym, subst}
use Rattle.jx_parts.specs.Refusals.{IsNoRun}
use Rattle.jx_parts.specs.inside.Reading.{IsFaultOf}
use Rattle.jx_parts.proofs.Refused.{record_refused}
use Rattle.jx_parts.proofs.next_portion.portion_by.Goals as goal

pub returns-in-Err-clause-refused : goal.returns-in-Err-clause-refused
returns-in-Err-clause-refused c =
    subst (IsFaultOf c.args.number (IsNoRun c.args.bytes.now)) (sym c.fault_of_run.ensures.is) (record_refused c.in-Err.fault c.args.number c.args.bytes.now c.in-Err.ensures.exact)
