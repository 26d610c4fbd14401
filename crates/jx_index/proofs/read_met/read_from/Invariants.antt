use Rattle.std.proofs.Common.{◌≡◌, drop}
use Rattle.jx_index.specs.inside.Finding.{read_from}
use Rattle.jx_index.specs.inside.Found.{tokens_of}
use Rattle.jx_index.proofs.read_met.read_from.Given as goal

abbrev pub invariant-loop-level : goal.invariant-loop-level
invariant-loop-level l = read_from l.met (drop l.level (tokens_of l.wanted)) l.level l.here ≡ read_from l.met (tokens_of l.wanted) 0 l.fn.root
