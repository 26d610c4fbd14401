use Rattle.std.proofs.Common.{◌≡◌, ◌-◌}
use Rattle.jx_serve.specs.inside.LineTables.{IsTable}
use Rattle.jx_serve.proofs.line_table.LineTable.read_gap.Given as goal

-- its blocks stand in the document, and those behind stay
abbrev pub invariant-loop-self : goal.invariant-loop-self
invariant-loop-self l = record {
  table : IsTable l.depth l.document.bytes l.self;
  behind : l.self.behind ≡ l.initial.self.behind;
}

abbrev pub decreases-loop-self : goal.decreases-loop-self
decreases-loop-self l = l.to - l.self.before
