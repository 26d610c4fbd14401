use Rattle.std.proofs.Common.{◌≡◌, take, fold}
use Rattle.jx_file_index.specs.Sums.{joined, nothing}
use Rattle.jx_file_index.proofs.levels.sum_of.Given as goal

abbrev pub invariant-loop-entry : goal.invariant-loop-entry
invariant-loop-entry l = l.sum ≡ fold (λ s e. joined s e.sum) nothing (take l.entry-index l.block)
