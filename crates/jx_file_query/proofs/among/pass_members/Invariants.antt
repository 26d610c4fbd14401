use Rattle.std.proofs.Common.{◌-◌, ◌≤◌}
use Rattle.jx_file_query.specs.inside.Members.{LeadsTo}
use Rattle.jx_file_query.proofs.among.pass_members.Given as goal

abbrev pub invariant-chunks : goal.invariant-chunks
invariant-chunks l = record {
  later : l.at ≤ l.end;
  leads : LeadsTo l.index l.names l.edges l.held l.at l.top l.end l.among;
}

abbrev pub decreases-chunks : goal.decreases-chunks
decreases-chunks l = l.last - l.end
