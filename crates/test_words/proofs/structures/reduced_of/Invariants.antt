use Rattle.std.proofs.Common.{◌≡◌, take}
use Rattle.jx_reduce.specs.Reducer.{HasReduced}
use Rattle.test_words.proofs.structures.reduced_of.Given as goal

-- the marks before this one were given
abbrev pub invariant-loop-mark : goal.invariant-loop-mark
invariant-loop-mark l =
    record {
      depth : l.reducer.depth ≡ l.fn.depth;
      given : HasReduced (take l.mark-index l.marks) l.reducer;
    }
