use Rattle.std.proofs.Common.{arith, refl}
use Rattle.jx_file_lines.proofs.Entries.{none_entered}
use Rattle.jx_file_lines.proofs.line_indexer.LineIndexer.new.Goals as goal

pub returns : goal.returns
returns c =
    record {
      fed = record {
        chunk_is = refl;
        keeps = refl;
        entered =
            none_entered c.args.chunk c.new.result.items c.new-2.result.items c.new.ensures.items c.new-2.ensures.items
            (let low = c.bytes.ensures.within.0 in let is = c.bytes.ensures.value in omega (arith, low, is));
      };
    }
