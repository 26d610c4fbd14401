use Rattle.std.proofs.Common.{◌≤◌, ℕ}
use Rattle.jx_reduce.specs.Read.{went}
use Rattle.jx_reduce.specs.declared.table.expect.Expect.TheVariants as expected
use Rattle.jx_reduce.specs.inside.Passed.{Reads}
use Rattle.jx_reduce.specs.inside.Told.{Sees}
use Rattle.jx_reduce.proofs.stack.whole_tokens.after.Given as goal

-- the closing brackets up to here were read
abbrev pub invariant-loop : goal.invariant-loop
invariant-loop g l =
    record {
      low : l.initial.at ≤ l.at;
      high : l.at ≤ l.to;
      reads : (depth : ℕ) → Reads depth l.text l.initial.at l.at (went expected.After (g.H.Containers.list l.initial.holders)) (went expected.After (g.H.Containers.list l.holders));
      seen : Sees (g.W.Watch.has_seen l.initial.watch) (g.W.Watch.has_seen l.watch) l.text l.initial.at l.at;
      turn : g.W.Watch.awaits l.watch;
    }
