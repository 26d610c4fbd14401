use Rattle.std.proofs.Common.{◌≡◌, length}
use Rattle.jx_maps.specs.Follow.{IsIn, AreIn, follow}
use Rattle.jx_maps.proofs.track_view.TrackView.exit.Given as goal

-- what is left leads to the same exit
abbrev pub invariant-loop-next : goal.invariant-loop-next
invariant-loop-next l = record {
  same : (follow l.rest l.next).exit ≡ (follow l.self.segments l.self.first).exit;
  next : IsIn (length l.rest) l.next;
  all : AreIn l.rest;
}

abbrev pub decreases-loop-next : goal.decreases-loop-next
decreases-loop-next l = length l.rest
