use Rattle.std.proofs.Common.{refl}
use Rattle.jx_file_build.proofs.Filling.{tables_part, tables_whole}
use Rattle.jx_file_build.proofs.Fitting.{one_more_fits}
use Rattle.jx_file_build.proofs.blocks.Blocks.into_tables.Goals as goal

pub returns-then-ends_block-clause-are : goal.returns-then-ends_block-clause-are
returns-then-ends_block-clause-are c = λ names h. tables_whole names c.args.self h _ refl (c.ends_block.ensures.whole c.if-ends_block.true)

pub returns-clause-are : goal.returns-clause-are
returns-clause-are c = λ names h.
    let t = c.into_table.ensures in
    tables_part names c.args.self h _ c.into_table.result c.in_ok-push.ensures.items (c.ends_block.ensures.part c.if-ends_block.false) t.kept t.rising t.same

pub returns-clause-fits : goal.returns-clause-fits
returns-clause-fits c = λ was. one_more_fits c.args.self.tables.items c.push.new.self.items c.into_table.result c.in_ok-push.ensures.items was.tables (c.into_table.ensures.fits was.last)
