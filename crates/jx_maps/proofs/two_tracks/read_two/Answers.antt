use Rattle.std.proofs.Common.{◌∷◌, [], refl, ◌∙◌}
use Rattle.jx_maps.proofs.ReadingOn.{reads-slices, reads-rest}
use Rattle.jx_maps.proofs.two_tracks.read_two.Goals as goal

pub returns-in-Some : goal.returns-in-Some
returns-in-Some c =
    let b = c.in_ok-i.ensures.bounds in
    reads-slices c.args.text.now c.args.from c.in_ok-i.i c.args.to (c.args.first ∷ c.args.second ∷ []) (c.read_stretches.new.first ∷ c.read_stretches.new.second ∷ []) _
    b.0 b.1 c.requires.bounds.1 c.in_ok-i.ensures.read c.in_ok-lanes.ensures

pub returns : goal.returns
returns c =
    let b = c.in_ok-i.ensures.bounds in
    rw (c.in_ok-push-2.ensures.items, c.in_ok-push.ensures.items, c.requires.none, c.into_segment.ensures, c.into_segment-2.ensures, c.in_ok-read_span.ensures, c.in_ok-read_span-2.ensures)
    (reads-slices c.args.text.now c.args.from c.in_ok-i.i c.args.to (c.args.first ∷ c.args.second ∷ []) (c.read_stretches.new.first ∷ c.read_stretches.new.second ∷ []) _
    b.0 b.1 c.requires.bounds.1 c.in_ok-i.ensures.read
    (reads-rest c.args.text.now c.in_ok-i.i c.args.to c.read_stretches.new.first c.read_stretches.new.second b.1 c.requires.bounds.1 c.in_ok-i.ensures.done
    (λ s e f. c.in_default.ensures.none refl s (c.next.ensures ∙ e) (c.next-2.ensures ∙ f))))
