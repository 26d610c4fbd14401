use Rattle.std.proofs.Common.{◌≡◌, take}
use Rattle.std.specs.Prelude.{fold}
use Rattle.jx_serve.specs.Changes.{changed}
use Rattle.jx_serve.proofs.held.Held.change_all.Given as goal

-- the changes so far are made
abbrev pub invariant-loop-change : goal.invariant-loop-change
invariant-loop-change l = l.self ≡ fold (changed l.encoding) l.initial.self (take l.change-index l.changes)
