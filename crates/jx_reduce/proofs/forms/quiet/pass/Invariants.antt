use Rattle.std.proofs.Common.{◌≡◌, ◌≤◌, ℕ, take, vec_capacity}
use Rattle.std.specs.Prelude.{reverse}
use Rattle.jx_reduce.specs.Form.{Form}
use Rattle.jx_reduce.specs.Levels.{with_opens}
use Rattle.jx_reduce.specs.Marks.{of_marks}
use Rattle.jx_reduce.specs.inside.Quiet.{standing, IsAt}
use Rattle.jx_reduce.proofs.forms.quiet.pass.Given as goal

-- the marks that were taken lead to the form with these containers, at this entry
abbrev pub invariant-loop-taken : goal.invariant-loop-taken
invariant-loop-taken l =
    record {
      most : l.most ≤ l.limit;
      capacity : l.most ≤ vec_capacity l.opens;
      standing : l.standing ≡ standing l.base (reverse l.opens.items);
      same : (d : ℕ) (r : Form) → IsAt d r (reverse l.initial.opens.items) l.limit l.base l.initial.entry
          → of_marks d r (take l.taken l.marks) ≡ with_opens r (reverse l.opens.items) l.entry;
    }
