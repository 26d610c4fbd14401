-- The containers before this one are open.
use Rattle.std.proofs.Common.{◌≡◌, ◌+◌, ◌++◌, length, reverse, take}
use Rattle.jx_reduce.proofs.stack.open_containers.OpenContainers.push_all.Given as goal

abbrev pub invariant-loop-holder : goal.invariant-loop-holder
invariant-loop-holder l =
    record {
      opened : l.self ≡ reverse (take l.holder-index l.holders) ++ l.initial.self;
      long : length l.self ≡ l.holder-index + length l.initial.self;
    }
