use Rattle.std.proofs.Common.{◌≡◌, ◌++◌, length}
use Rattle.jx_index.specs.Pointers.{HasSlash, tokens}
use Rattle.jx_index.specs.inside.Found.{tokens_of}
use Rattle.jx_index.proofs.wanted.wanted_of.Given as goal

abbrev pub invariant-loop-rest : goal.invariant-loop-rest
invariant-loop-rest l = record {
  tokens_are : tokens_of l.wanted.items ++ tokens l.rest ≡ tokens l.initial.rest;
  slash : HasSlash l.rest;
}

abbrev pub decreases-loop-rest : goal.decreases-loop-rest
decreases-loop-rest l = length l.rest
