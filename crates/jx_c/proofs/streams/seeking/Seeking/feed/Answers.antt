use Rattle.std.proofs.Common.{subst, sym}
use Rattle.std.proofs.lemmas.Result.{on_ok_weaker}
use Rattle.jx_c.specs.Seeks.{HasSought, SeekingValue}
use Rattle.jx_c.proofs.streams.seeking.Seeking.feed.Goals as goal

pub returns : goal.returns
returns c =
    record {
      sought = on_ok_weaker c.feed.result
          (λ on. λ settings pointers text h.
          let k = subst (λ (s : SeekingValue). HasSought settings pointers text s) (sym c.self.view_is) h in
          record { given = k.given; read = k.read; spelt = k.spelt; fed = on settings k.read text k.fed }) c.feed.ensures.fed;
    }
