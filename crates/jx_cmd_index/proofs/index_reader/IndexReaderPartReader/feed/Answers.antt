use Rattle.std.proofs.Common.{arith, length-append}
use Rattle.jx_cmd_index.proofs.index_reader.IndexReaderPartReader.feed.Goals as goal

pub returns : goal.returns
returns g c = record {
  read = λ xs given h.
      let n = h.count_is in
      let more = c.args.bytes.now in
      record {
        depth = h.depth;
        saving_is = c.in_ok-feed.ensures g.K.Asked.has_names g.K.Asked.settings g.K.Asked.chunk xs h.saving_is;
        count_is = omega (arith, n, length-append xs more);
      };
}
