use Rattle.std.proofs.Common.{◌≡◌, ◌++◌, length}
use Rattle.jx_maps.specs.Follow.{IsIn, AreIn, follow}
use Rattle.jx_maps.proofs.items.Items.take_next.Given as goal

abbrev pub invariant-loop-first : goal.invariant-loop-first
invariant-loop-first g l = record {
  same : l.self-inside.here.now ++ g.T.Kept.in_track (follow l.self-inside.rest.now l.self-inside.next) ≡ l.fn.self;
  next : IsIn (length l.self-inside.rest.now) l.self-inside.next;
  all : AreIn l.self-inside.rest.now;
}

abbrev pub decreases-loop-first : goal.decreases-loop-first
decreases-loop-first g l = length l.self-inside.rest.now
