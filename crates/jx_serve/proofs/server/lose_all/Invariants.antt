use Rattle.std.proofs.Common.{◌≡◌, ◌++◌, map, take, drop}
use Rattle.jx_serve.specs.Served.{lost_open}
use Rattle.jx_serve.proofs.server.lose_all.Given as goal

-- the documents so far are lost
abbrev pub invariant-loop-open : goal.invariant-loop-open
invariant-loop-open l = l.documents ≡ map lost_open (take l.open-index l.initial.documents) ++ drop l.open-index l.initial.documents
