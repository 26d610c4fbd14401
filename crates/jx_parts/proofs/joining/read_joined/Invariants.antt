-- The records that were read so far were taken.
use Rattle.std.proofs.Common.{◌≡◌, false}
use Rattle.jx_parts.specs.inside.Reading.{AreCounted}
use Rattle.jx_parts.proofs.joining.read_joined.Given as goal

abbrev pub invariant-loop-number : goal.invariant-loop-number
invariant-loop-number g l = (g.S.Source.has_failed l.reader ≡ false) × AreCounted l.depth l.number (g.S.Source.remaining l.fn.reader) (g.S.Source.remaining l.reader) l.joined
