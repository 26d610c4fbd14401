use Rattle.std.proofs.Common.{drop}
use Rattle.jx_index.specs.inside.NameLists.{IsNameTie}
use Rattle.jx_index.proofs.Ties.{Leads}
use Rattle.jx_index.proofs.name_lists.first_equal.Given as goal

-- what was found, with the first tie among the names that are left
abbrev pub invariant-loop-at : goal.invariant-loop-at
invariant-loop-at l = Leads (IsNameTie l.text l.names) (IsNameTie l.text (drop l.at l.names)) l.first
