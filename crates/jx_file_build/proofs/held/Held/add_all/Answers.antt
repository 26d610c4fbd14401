use Rattle.std.proofs.Common.{◌≡◌, ◌+◌, arith, length}
use Rattle.std.specs.Prelude.{slice_range}
use Rattle.jx_file_build.proofs.Feedings.{chunk_added, piece_long}
use Rattle.jx_file_build.proofs.held.Held.add_all.Goals as goal

pub chunks-preserved : goal.chunks-preserved
chunks-preserved c =
    let at = c.chunks.at in
    let size = c.args.size in
    let bytes = c.args.bytes.now in
    let low = c.chunks.invariant.within in
    let test = c.chunks-test.true in
    let some = c.requires.some in
    let long : length (slice_range bytes at (at + size)) ≡ size = piece_long bytes at size (omega (arith, low, test, some)) in
    record {
      within = omega (arith, low, test, some);
      whole = λ has_names settings before h.
          chunk_added has_names settings size before bytes at c.chunks.held c.in_ok-held.held (omega (arith, low, test, some)) (c.chunks.invariant.whole has_names settings before h) c.in_ok-held.ensures.entries
          (λ xs whole le. c.in_ok-held.ensures.entered has_names settings size xs whole le);
    }
