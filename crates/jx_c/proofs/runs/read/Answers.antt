use Rattle.std.proofs.Common.{subst}
use Rattle.jx_portion.specs.Portion.{IsMemory}
use Rattle.jx_c.proofs.Records.{no_run_there}
use Rattle.jx_c.proofs.runs.read.Goals as goal

pub returns-in-Err-Fault-clause-reads : goal.returns-in-Err-Fault-clause-reads
returns-in-Err-Fault-clause-reads c = λ bytes from depth is. absurd (subst IsMemory c.in-Err-Fault.field-0-is (c.in-Err-Fault.ensures.refuses bytes from depth is))

pub returns-in-Err-Fault-clause-none : goal.returns-in-Err-Fault-clause-none
returns-in-Err-Fault-clause-none c = λ is. no_run_there c.args.run.now c.in-Err-Fault.field-0 _ c.in-Err-Fault.field-0-is c.in-Err-Fault.ensures.only
