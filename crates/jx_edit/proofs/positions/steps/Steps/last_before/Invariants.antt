use Rattle.jx_edit.specs.inside.Nearing.{IsBefore}
use Rattle.jx_edit.proofs.positions.steps.Steps.last_before.Given as goal

-- it is not behind the position
abbrev pub invariant-loop-number : goal.invariant-loop-number
invariant-loop-number l = IsBefore l.self.encoding l.from l.to l.bytes l.last
