use Rattle.std.proofs.Common.{arith, ◌-◌}
use Rattle.jx_edit.proofs.Links.{depth_of, none_open, place_before, place_none}
use Rattle.jx_edit.proofs.reading.standing.place_behind.Goals as goal

pub returns-then-count-eq0-clause-place : goal.returns-then-count-eq0-clause-place
returns-then-count-eq0-clause-place c = place_none c.args.chunks.now c.args.count c.args.first.now (omega arith) c.requires.start

pub returns-then-count-eq0-clause-within : goal.returns-then-count-eq0-clause-within
returns-then-count-eq0-clause-within c = none_open c.args.first.now c.args.depth c.requires.start

pub returns-clause-place : goal.returns-clause-place
returns-clause-place c =
    place_before c.args.chunks.now c.args.count c.index-chunks-last.result c.place.result.now (omega arith) c.requires.within c.index-chunks-last.is c.place.ensures.place

pub returns-clause-within : goal.returns-clause-within
returns-clause-within c =
    omega (arith, depth_of c.args.depth c.args.chunks.now (c.args.count - 1) c.index-chunks-last.result (omega arith) c.index-chunks-last.is c.requires.linked, c.place.ensures.within)
