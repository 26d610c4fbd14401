use Rattle.std.proofs.Common.{◌≤◌}
use Rattle.jx_reduce.specs.Read.{went}
use Rattle.jx_reduce.specs.inside.Passed.{Reads}
use Rattle.jx_reduce.specs.inside.Told.{Sees}
use Rattle.jx_reduce.proofs.stack.blocks.blocks.Given as goal

-- the blocks up to here were read
abbrev pub invariant-loop : goal.invariant-loop
invariant-loop g l = record {
  low : l.from ≤ l.at;
  high : l.at ≤ l.to;
  reads : Reads l.most l.text l.from l.at (went l.initial.expect (g.H.Containers.list l.initial.holders)) (went l.expect (g.H.Containers.list l.holders));
  seen : Sees (g.W.Watch.has_seen l.initial.watch) (g.W.Watch.has_seen l.watch) l.text l.from l.at;
  turn : g.W.Watch.awaits l.watch;
}
