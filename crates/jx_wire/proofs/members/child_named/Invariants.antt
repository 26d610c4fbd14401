use Rattle.std.proofs.Common.{◌≡◌}
use Rattle.std.specs.Prelude.{filter}
use Rattle.jx_index.specs.RowsLead.{is_equal}
use Rattle.jx_wire.proofs.members.child_named.Given as goal

-- no child so far has the name
abbrev pub invariant-loop-child : goal.invariant-loop-child
invariant-loop-child l =
    filter (is_equal l.index.text l.index.rows l.name) l.child-iterator ≡ filter (is_equal l.index.text l.index.rows l.name) l.initial.child-iterator
