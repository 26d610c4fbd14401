use Rattle.std.proofs.Common.{[]}
use Rattle.std.proofs.KnownBytes.{Appends-nil}
use Rattle.jx_files.specs.Faults.{fault_line}
use Rattle.jx_files.specs.Files.{unanswered}
use Rattle.jx_files.proofs.reports.report_on_one.Goals as goal

pub returns-in-Err-clause-ok : goal.returns-in-Err-clause-ok
returns-in-Err-clause-ok g c = record {
  output = [];
  tells = fault_line c.args.word.now c.in-Err.fault;
  reported = unanswered c.in-Err.ensures.err;
  wrote = Appends-nil _;
  says = c.tell.ensures.told;
}
