use Rattle.std.proofs.Common.{take}
use Rattle.std.specs.List.{AllZip}
use Rattle.jx_index.specs.inside.Seeking.{IsReadOf}
use Rattle.jx_index.proofs.read_met.read_each.Given as goal

abbrev pub invariant-loop-pointer : goal.invariant-loop-pointer
invariant-loop-pointer l = AllZip (IsReadOf l.edges l.met) (take l.pointer-index l.pointers) l.found.items
