use Rattle.jx_serve.proofs.LineTables.{block_by}
use Rattle.jx_serve.specs.inside.LineTables.{IsBlockAt}
use Rattle.jx_serve.proofs.line_table.LineTable.read_block.Goals as goal

pub returns-in_ok-take_in-in-Ok-Some-clause-table : goal.returns-in_ok-take_in-in-Ok-Some-clause-table
returns-in_ok-take_in-in-Ok-Some-clause-table c =
    let bytes = c.args.document.now.bytes in
    let at : IsBlockAt c.args.depth bytes c.args.self.now.before c.args.to c.in-Ok-Some.block = rw c.in-Ok-Some.field-0-is at c.in-Ok-Some.ensures in
    c.take_in.ensures.table c.args.depth bytes (block_by c.args.depth bytes c.args.self.now.before c.args.to _ c.in-Ok-Some.block c.requires.gap at) c.requires.table

pub returns-in_err-take_in-in-Ok-Some-clause-table : goal.returns-in_err-take_in-in-Ok-Some-clause-table
returns-in_err-take_in-in-Ok-Some-clause-table c =
    let bytes = c.args.document.now.bytes in
    let at : IsBlockAt c.args.depth bytes c.args.self.now.before c.args.to c.in-Ok-Some.block = rw c.in-Ok-Some.field-0-is at c.in-Ok-Some.ensures in
    c.take_in.ensures.table c.args.depth bytes (block_by c.args.depth bytes c.args.self.now.before c.args.to _ c.in-Ok-Some.block c.requires.gap at) c.requires.table
