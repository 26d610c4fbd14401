use Rattle.std.proofs.Common.{◌≡◌, take}
use Rattle.jx_reduce.specs.Read.{read}
use Rattle.jx_reduce.proofs.stack.known_stack.KnownStack.step_all.Given as goal

-- the marks before this one were taken
abbrev pub invariant-loop-mark : goal.invariant-loop-mark
invariant-loop-mark l =
    record {
      depth : l.self.depth ≡ l.initial.self.depth;
      reads : l.self.reading ≡ read l.initial.self.depth (take l.mark-index l.marks) l.initial.self.reading;
    }
