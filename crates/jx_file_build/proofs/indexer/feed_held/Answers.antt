use Rattle.std.proofs.Common.{length, refl}
use Rattle.std.specs.Prelude.{slice_range}
use Rattle.jx_file_build.proofs.Feedings.{rest_fed}
use Rattle.jx_file_build.proofs.indexer.feed_held.Goals as goal

pub returns : goal.returns
returns c = λ has_names settings bytes h.
    let slice = c.args.slice.now in
    let begun = c.in_ok-begun.begun in
    let added = c.in_ok-added.added in
    rest_fed has_names settings c.args.size bytes slice (slice_range slice begun.len (length slice)) begun.len added.len begun.held added.held c.begin.new.part.items c.extend_from_slice.new.self.items
    (c.in_ok-begun.ensures.held has_names settings bytes h) c.in_ok-begun.ensures.within refl (λ before whole. c.in_ok-added.ensures.whole has_names settings before whole)
    c.in_ok-added.ensures.within c.in_ok-added.ensures.rest c.in_ok-extend_from_slice.ensures.items c.in_ok-begun.ensures.all
