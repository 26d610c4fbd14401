use Rattle.jx_each.proofs.Words.{no_gaps, some_gaps}
use Rattle.jx_each.proofs.blocks.gaps.Goals as goal

pub returns-then-lows-strings-eq0 : goal.returns-then-lows-strings-eq0
returns-then-lows-strings-eq0 c = no_gaps c.args.block c.lows.result c.args.strings c.fits-block.0 c.ranges.strings.fits c.lows.ensures c.if-lows-strings-eq0.true

pub returns : goal.returns
returns c = some_gaps c.args.block c.blanks.result c.args.strings c.fits-block.0 c.ranges.strings.fits c.blanks.ensures
