use Rattle.std.proofs.Common.{refl}
use Rattle.jx_ndjson_report.proofs.ElementTakes.{element_taken_none}
use Rattle.jx_ndjson_report.proofs.element_teller.ElementTeller.new.Goals as goal

pub returns-clause-taken : goal.returns-clause-taken
returns-clause-taken c = element_taken_none c.args.task.now _ c.new.ensures.told refl c.new-2.ensures.items
