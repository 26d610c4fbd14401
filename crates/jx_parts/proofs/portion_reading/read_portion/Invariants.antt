-- What was read so far is what the portion is of.
use Rattle.std.proofs.Common.{◌≡◌, ◌-◌, ◌^◌, ◌≤◌, ℕ, List, false, vec_len}
use Rattle.std.specs.Io.KnownBytes.{Consumes}
use Rattle.jx_portion.specs.Portion.{IsPortion}
use Rattle.jx_parts.proofs.portion_reading.read_portion.Given as goal

abbrev pub invariant-loop-portion : goal.invariant-loop-portion
invariant-loop-portion g l = (vec_len l.buffer ≤ l.batch) × (g.S.Source.has_failed l.reader ≡ false) × (1 ≤ l.batch)
    × ((text : List ℕ) × (Consumes (g.S.Source.remaining l.fn.reader) (g.S.Source.remaining l.reader) text × IsPortion text l.fn.from l.fn.depth l.portion))

abbrev pub decreases-loop-portion : goal.decreases-loop-portion
decreases-loop-portion g l = 2 ^ 64 - l.portion.run.end
