use Rattle.std.proofs.Common.{◌≡◌, ◌+◌, ◌<◌, ◌≤◌, length}
use Rattle.jx_index.specs.Pointers.{HasSlash, tokens}
use Rattle.jx_index.specs.RowsLead.{rows_lead}
use Rattle.jx_index.proofs.indexed.Indexed.find.Given as goal

abbrev pub invariant-loop-rows : goal.invariant-loop-rows
invariant-loop-rows l = record {
  same : rows_lead l.self.text l.self.rows (tokens l.rest) l.node l.token ≡ rows_lead l.self.text l.self.rows (tokens l.initial.rest) l.initial.node l.initial.token;
  slash : HasSlash l.rest;
  is_row : l.node < length l.self.rows;
  count : l.token + length l.rest ≤ l.initial.token + length l.initial.rest;
}

abbrev pub decreases-loop-rows : goal.decreases-loop-rows
decreases-loop-rows l = length l.rest
