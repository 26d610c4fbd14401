use Rattle.std.proofs.Common.{ap, sym, [], refl}
use Rattle.jx_serve.specs.inside.LineTables.{len_of}
use Rattle.jx_serve.proofs.LineTables.{laid_none, laid_same}
use Rattle.jx_serve.proofs.line_table.LineTable.new.Goals as goal

pub returns : goal.returns
returns c = λ limit bytes. record {
  laid = laid_same limit bytes [] [] c.new.result.items c.new-2.result.items 0 0 c.new.ensures.items c.new-2.ensures.items refl (laid_none limit bytes);
  before_is = sym (ap len_of c.new.ensures.items);
}
