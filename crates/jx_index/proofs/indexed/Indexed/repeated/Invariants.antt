use Rattle.jx_index.specs.inside.Ties.{IsRepeatFrom}
use Rattle.jx_index.proofs.Ties.{Leads}
use Rattle.jx_index.proofs.indexed.Indexed.repeated.Given as goal

-- what was found, with the first repeat among the objects that are left
abbrev pub invariant-loop-node : goal.invariant-loop-node
invariant-loop-node l = Leads (IsRepeatFrom l.self.text l.self.rows 0) (IsRepeatFrom l.self.text l.self.rows l.node) l.first
