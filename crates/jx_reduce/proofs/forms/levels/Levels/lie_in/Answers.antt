use Rattle.std.proofs.Common.{◌∙◌, sym}
use Rattle.jx_reduce.specs.Levels.{form_of}
use Rattle.jx_reduce.proofs.Checked.{in_offsets, offsets_in}
use Rattle.jx_reduce.proofs.forms.levels.Levels.lie_in.Goals as goal

pub returns : goal.returns
returns c =
    let is = c.has_offsets.ensures in
    (λ yes. offsets_in c.args.bound (form_of c.args.self.now) (sym is ∙ yes), λ h. is ∙ in_offsets c.args.bound (form_of c.args.self.now) h)
