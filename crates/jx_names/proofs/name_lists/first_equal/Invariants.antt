use Rattle.std.proofs.Common.{drop}
use Rattle.jx_index.specs.inside.Ties.{IsTie}
use Rattle.jx_index.proofs.Ties.{Leads}
use Rattle.jx_names.specs.inside.KeptNames.{start_of, keyed_in}
use Rattle.jx_names.proofs.name_lists.first_equal.Given as goal

-- what was found, with the first tie among the names that are left
abbrev pub invariant-loop-at : goal.invariant-loop-at
invariant-loop-at l = Leads (IsTie (keyed_in l.bytes) start_of l.names) (IsTie (keyed_in l.bytes) start_of (drop l.at l.names)) l.first
