use Rattle.std.proofs.Common.{Bool}
use Rattle.jx_run.specs.Tree.{Tree}
use Rattle.jx_wire.specs.Requests.{Offers}
use Rattle.jx_wire.specs.Values.{value_at, IsBody}
use Rattle.jx_wire.proofs.parameters.counts_bytes.Given as goal

-- what is offered from here on is offered
abbrev pub invariant-loop-number : goal.invariant-loop-number
invariant-loop-number l = (tree : Tree) → IsBody l.message tree → (utf8 : Bool) → Offers (value_at l.message tree) l.number-counter utf8 → Offers (value_at l.message tree) 0 utf8
