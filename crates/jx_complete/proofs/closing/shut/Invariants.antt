use Rattle.std.proofs.Common.{◌≡◌, ◌++◌, vec_len}
use Rattle.std.specs.Prelude.{reverse}
use Rattle.jx_run.specs.inside.Closing.{shut}
use Rattle.jx_complete.proofs.closing.shut.Given as goal

-- the containers that are left are still to be closed
abbrev pub invariant-loop-holder : goal.invariant-loop-holder
invariant-loop-holder l = l.out.items ++ shut (reverse l.holders.items) ≡ l.initial.out.items ++ shut (reverse l.initial.holders.items)

abbrev pub decreases-loop-holder : goal.decreases-loop-holder
decreases-loop-holder l = vec_len l.holders
