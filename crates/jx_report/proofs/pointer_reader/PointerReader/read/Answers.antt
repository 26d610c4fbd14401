use Rattle.std.proofs.lemmas.Result.{on_ok_weaker}
use Rattle.jx_report.specs.inside.PointerReads.{any_names}
use Rattle.jx_report.proofs.pointer_reader.PointerReader.read.Goals as goal

pub returns : goal.returns
returns c =
    record {
      reads = on_ok_weaker c.feed.result
          (λ on. λ settings spelt text h.
          record { pointers = h.pointers; read = h.read; fed = on (any_names settings) h.pointers text h.fed; compared = c.in_ok-read.ensures.reads settings text h.compared }) c.feed.ensures.fed;
    }
