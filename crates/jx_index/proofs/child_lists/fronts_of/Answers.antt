use Rattle.std.proofs.Common.{sym, arith}
use Rattle.jx_index.proofs.child_lists.fronts_of.Goals as goal

pub returns : goal.returns
returns c = record {
  place = c.partition_point-at.result;
  kept = c.wide_at-kept.result.now;
  there = c.wide_at-kept.ensures;
  object_is = omega arith;
  fronts_are = sym c.as_slice.ensures.value;
}
