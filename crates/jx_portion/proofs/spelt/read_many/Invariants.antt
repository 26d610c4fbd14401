use Rattle.std.proofs.Common.{◌≡◌, ◌-◌}
use Rattle.jx_portion.specs.Reading.{many_at}
use Rattle.jx_portion.proofs.Loop.{with_front}
use Rattle.jx_portion.proofs.spelt.read_many.Given as goal

abbrev pub invariant-loop : goal.invariant-loop
invariant-loop g l = with_front l.items.items (many_at g.T.Spelt.reading (l.count - l.counter) l.rest) ≡ many_at g.T.Spelt.reading l.count l.bytes
