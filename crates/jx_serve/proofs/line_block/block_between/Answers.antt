use Rattle.std.proofs.Common.{◌∙◌}
use Rattle.jx_serve.proofs.LineTables.{block_between}
use Rattle.jx_serve.proofs.line_block.block_between.Goals as goal

pub returns : goal.returns
returns c =
    block_between c.args.depth c.args.document.now.bytes c.deref.result.now c.args.from c.args.to c.in_ok-block.block c.requires.order c.requires.within (c.deref.ensures.value ∙ c.in_ok-bytes.ensures)
    c.in_ok-block.ensures.lines
