use Rattle.std.proofs.Common.{subst}
use Rattle.std.proofs.lemmas.Result.{on_ok_weaker}
use Rattle.jx_report.specs.declared.name_check.NameCheck.{NameCheck}
use Rattle.jx_report.specs.inside.PointerReads.{AreCompared}
use Rattle.jx_report.proofs.name_check.NameCheck.read.Goals as goal

pub returns-else-batch-end : goal.returns-else-batch-end
returns-else-batch-end c =
    record {
      reads = on_ok_weaker c.feed.result (λ fed. λ settings text h. fed settings text (subst (λ (n : NameCheck). AreCompared settings text n) c.in-Unique.is h)) c.feed.ensures.fed;
    }
