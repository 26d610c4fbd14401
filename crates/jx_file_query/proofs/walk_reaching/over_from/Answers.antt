use Rattle.jx_file_query.proofs.walk_reaching.over_from.Goals as goal

pub over_block-requires-in-Some : goal.over_block-requires-in-Some
over_block-requires-in-Some c = record { block = c.in-Some.ensures.begins c.args.index.now c.args.at c.levels.invariant.block }

pub levels-preserved : goal.levels-preserved
levels-preserved c = record {
  block = c.in-Some.ensures.begins c.args.index.now c.args.at c.levels.invariant.block;
  stretch = c.in-Some-over_block.ensures;
}
