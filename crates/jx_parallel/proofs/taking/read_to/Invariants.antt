-- The reader has gone on.
use Rattle.std.proofs.Common.{◌≡◌, length}
use Rattle.jx_parallel.specs.Parts.{GoesOn}
use Rattle.jx_parallel.proofs.taking.read_to.Given as goal

abbrev pub invariant-loop : goal.invariant-loop
invariant-loop g l = record {
  next : (goal.iterator-loop g).can_next l.iterator';
  finite : (goal.iterator-loop g).is_finite l.iterator';
  length : length l.buffer ≡ length l.initial.buffer;
  read : GoesOn (g.F.SharedAt.content l.file) (g.L.PartReader.has_read l.rule) l.initial.reader l.reader;
}
