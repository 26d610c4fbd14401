use Rattle.std.proofs.Common.{◌≡◌}
use Rattle.jx_names.specs.inside.NameBytes.{bytes_key}
use Rattle.jx_names.proofs.name_key.bytes_key.Given as goal

abbrev pub invariant-bytes : goal.invariant-bytes
invariant-bytes l = l.key ≡ bytes_key l.bytes l.n
