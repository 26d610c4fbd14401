use Rattle.jx_serve.proofs.LineTables.{block_sooner}
use Rattle.jx_serve.proofs.line_block.block_at.Goals as goal

pub returns : goal.returns
returns c = block_sooner c.args.depth c.args.document.now.bytes c.args.from c.in_ok-end.end c.args.to c.in_ok-block.block (c.in_ok-end.ensures).1 c.in_ok-block.ensures
