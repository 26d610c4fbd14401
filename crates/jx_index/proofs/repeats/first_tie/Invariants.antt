use Rattle.std.proofs.Common.{drop}
use Rattle.jx_index.specs.inside.Ties.{IsRowTie}
use Rattle.jx_index.proofs.Ties.{Leads}
use Rattle.jx_index.proofs.repeats.first_tie.Given as goal

-- what was found, with the first tie among the names that are left
abbrev pub invariant-loop-at : goal.invariant-loop-at
invariant-loop-at l = Leads (IsRowTie l.text l.rows l.names) (IsRowTie l.text l.rows (drop l.at l.names)) l.first
