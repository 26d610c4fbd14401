use Rattle.std.proofs.Common.{map, subst}
use Rattle.std.proofs.lemmas.Result.{on_ok_weaker}
use Rattle.std.specs.Prelude.{string_bytes}
use Rattle.jx_report.specs.inside.Batches.{IsReadingOf}
use Rattle.jx_report.proofs.reading.Reading.read.Goals as goal

pub returns-in-Elements : goal.returns-in-Elements
returns-in-Elements g c =
    record {
      reads = on_ok_weaker c.read-in-Elements.result
          (λ reads. record {
            reads = λ task settings text h. let was = subst (IsReadingOf task settings text) c.in-Elements.is h in (was.0, reads settings text was.1);
          }) c.read-in-Elements.ensures.reads;
    }

pub returns-in-Pointers : goal.returns-in-Pointers
returns-in-Pointers g c =
    record {
      reads = on_ok_weaker c.read.result
          (λ reads. record {
            reads = λ task settings text h.
                let was = subst (IsReadingOf task settings text) c.in-Pointers.is h in
                record { spelt = was.spelt; task_is = was.task_is; looked_up = reads settings (map string_bytes was.spelt.items) text was.looked_up };
          }) c.read.ensures.reads;
    }

pub returns-in-Names : goal.returns-in-Names
returns-in-Names g c =
    record {
      reads = on_ok_weaker c.feed-in-Names.result
          (λ reads. record { reads = λ task settings text h. let was = subst (IsReadingOf task settings text) c.in-Names.is h in (was.0, reads settings text was.1) }) c.feed-in-Names.ensures.fed;
    }
