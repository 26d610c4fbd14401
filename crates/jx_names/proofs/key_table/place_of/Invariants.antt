use Rattle.std.specs.Slice.Scan.{HoldsNowhere}
use Rattle.jx_names.proofs.KeyTables.{ends_at}
use Rattle.jx_names.proofs.key_table.place_of.Given as goal

-- no place so far
abbrev pub invariant-loop-at : goal.invariant-loop-at
invariant-loop-at l = HoldsNowhere (ends_at l.table l.key) l.from l.at
