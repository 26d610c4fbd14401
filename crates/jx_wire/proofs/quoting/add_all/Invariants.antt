use Rattle.std.proofs.Common.{◌≡◌, ◌++◌, take}
use Rattle.jx_wire.specs.inside.Escapes.{all_spelt}
use Rattle.jx_wire.proofs.quoting.add_all.Given as goal

-- the bytes so far are added
abbrev pub invariant-loop-byte : goal.invariant-loop-byte
invariant-loop-byte l = l.out.items ≡ l.initial.out.items ++ all_spelt (take l.byte-index l.text)
