use Rattle.std.proofs.Common.{subst, ap, ◌∙◌}
use Rattle.jx_reduce.specs.Form.{acts}
use Rattle.jx_reduce.specs.Marks.{of_nothing}
use Rattle.jx_reduce.specs.Read.{top}
use Rattle.jx_reduce.specs.Reduced.{form_in}
use Rattle.jx_reduce.specs.Reductions.{entry_of}
use Rattle.jx_reduce.specs.Structure.{answer}
use Rattle.jx_reduce.specs.inside.Structures.{followed_by, IsSound}
use Rattle.jx_reduce.proofs.Sound.{plain_entry}
use Rattle.jx_reduce.proofs.Structures.{acts-from_nothing}
use Rattle.jx_reduce.proofs.forms.structure.Structure.reduced.Goals as goal

pub returns-clause-answers : goal.returns-clause-answers
returns-clause-answers c = λ s short.
    let f = c.args.self.now in
    let e = c.in_ok-reduced.ensures in
    ap (λ d. acts d (form_in c.in_ok-reduced.reduced) s) e.depth
    ∙ ap (λ r. acts f.depth r s) e.form
    ∙ ap (λ x. acts f.depth (followed_by (of_nothing x) f) s) c.of.ensures
    ∙ acts-from_nothing f (entry_of c.args.expect) s (subst IsSound c.self.view_is c.self.invariant.0) short
    ∙ ap (λ x. answer f x s) (plain_entry c.args.expect (top s))
