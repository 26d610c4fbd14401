use Rattle.std.specs.Prelude.{slice_range}
use Rattle.jx_maps.proofs.ReadingOn.{reads-third}
use Rattle.jx_maps.proofs.two_tracks.read_met.Goals as goal

pub returns : goal.returns
returns c =
    rw (c.in_ok-push-3.ensures.items, c.in_ok-push-2.ensures.items, c.in_ok-push.ensures.items, c.requires.none, c.followed_by.ensures, c.followed_by-2.ensures, c.into_segment.ensures, c.in_ok-read_span.ensures, c.new-third.ensures)
    (reads-third c.args.from (slice_range c.args.text.now c.args.from c.args.to) c.args.state c.args.first c.args.second c.requires.stand.0 c.requires.stand.1)
