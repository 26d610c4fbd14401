-- The tokens so far, and those of what is left, are all.
use Rattle.std.proofs.Common.{◌≡◌, ◌++◌, length}
use Rattle.jx_index.specs.Pointers.{HasSlash, tokens}
use Rattle.jx_each.specs.inside.Paths.{path_of}
use Rattle.jx_each.proofs.token.tokens_of.Given as goal

abbrev pub invariant-loop-rest : goal.invariant-loop-rest
invariant-loop-rest l = record {
  tokens_are : path_of l.path.items ++ tokens l.rest ≡ tokens l.initial.rest;
  slash : HasSlash l.rest;
}

abbrev pub decreases-loop-rest : goal.decreases-loop-rest
decreases-loop-rest l = length l.rest
