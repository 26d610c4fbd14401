use Rattle.jx_serve.specs.Values.{rows_before, symbol_of}
use Rattle.jx_serve.proofs.Outlines.{first_of}
use Rattle.jx_serve.proofs.symbols.symbols_of.Goals as goal

pub returns : goal.returns
returns c =
    first_of (symbol_of c.args.encoding c.args.document.now.bytes c.args.kept) c.args.rows.now (rows_before c.args.kept c.args.rows.now) c.loop-row.symbols.items c.min.result 10000
    c.count_before-count.result c.loop-row.row-index c.min.ensures c.count_before-count.ensures.rows c.loop-row-test.false c.loop-row.invariant.listed
