use Rattle.std.proofs.Common.{◌≡◌, ◌≤◌, ◌-◌, length, take}
use Rattle.jx_reduce.specs.Marks.{of_marks}
use Rattle.jx_reduce.specs.Levels.{form_of}
use Rattle.jx_reduce.proofs.forms.levels.Levels.read_on.Given as goal

-- the marks so far lead to the form
abbrev pub invariant-loop-done : goal.invariant-loop-done
invariant-loop-done l =
    record {
      within : l.done ≤ length l.marks;
      same : form_of l.levels ≡ of_marks l.depth (form_of l.fn.self) (take l.done l.marks);
    }

abbrev pub decreases-loop-done : goal.decreases-loop-done
decreases-loop-done l = length l.marks - l.done
