use Rattle.std.proofs.Common.{sym, ◌∙◌}
use Rattle.std.proofs.lemmas.Result.{on_ok_weaker}
use Rattle.jx_values.proofs.Looks.{as_long}
use Rattle.jx_values.proofs.value_reader.ValuesReader.read.Goals as goal

pub returns : goal.returns
returns c =
    on_ok_weaker c.keep_each.result
    (λ kept. λ settings spelt text h.
    record {
      pointers = h.pointers;
      read = h.read;
      fed = c.in_ok-feed.ensures.fed settings h.pointers text h.fed;
      kept = kept text (sym (c.end-base.ensures ∙ as_long settings spelt text c.args.self.now h)) h.kept;
    })
    c.keep_each.ensures
