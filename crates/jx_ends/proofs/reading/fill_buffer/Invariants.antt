-- What was read so far is the filled part of the buffer.
use Rattle.std.proofs.Common.{◌≡◌, ◌-◌, ◌≤◌, false, take, vec_len}
use Rattle.std.specs.Io.KnownBytes.{Consumes}
use Rattle.jx_ends.proofs.reading.fill_buffer.Given as goal

abbrev pub invariant-loop-filled : goal.invariant-loop-filled
invariant-loop-filled g l = (l.filled ≤ vec_len l.buffer) × (vec_len l.buffer ≤ l.limit) × (g.S.Source.has_failed l.reader ≡ false)
    × Consumes (g.S.Source.remaining l.initial.reader) (g.S.Source.remaining l.reader) (take l.filled l.buffer.items)

abbrev pub decreases-loop-filled : goal.decreases-loop-filled
decreases-loop-filled g l = l.limit - l.filled
