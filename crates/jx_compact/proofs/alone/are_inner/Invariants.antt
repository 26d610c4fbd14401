-- The bytes so far are.
use Rattle.std.proofs.Common.{◌≡◌, take, true}
use Rattle.std.specs.List.{list_all}
use Rattle.jx_compact.specs.inside.Alone.{is_inner}
use Rattle.jx_compact.proofs.alone.are_inner.Given as goal

abbrev pub invariant-loop-byte : goal.invariant-loop-byte
invariant-loop-byte l = list_all is_inner (take l.byte-index l.bytes) ≡ true
