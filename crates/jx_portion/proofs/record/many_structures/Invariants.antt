use Rattle.std.proofs.Common.{◌≡◌, ◌-◌, map}
use Rattle.jx_portion.specs.Fields.{structure_fields}
use Rattle.jx_portion.specs.Reading.{many_at, structure_at}
use Rattle.jx_portion.proofs.Loop.{with_front}
use Rattle.jx_portion.proofs.record.many_structures.Given as goal

abbrev pub invariant-loop : goal.invariant-loop
invariant-loop l = with_front (map structure_fields l.structures.items) (many_at structure_at (l.count - l.counter) l.rest) ≡ many_at structure_at l.count l.bytes
