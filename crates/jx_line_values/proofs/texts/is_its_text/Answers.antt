use Rattle.std.proofs.Common.{◌∙◌, ap, sym}
use Rattle.std.specs.List.{list_all}
use Rattle.jx_index.specs.Units.{between_marks}
use Rattle.jx_line_values.specs.inside.Texts.{is_itself}
use Rattle.jx_line_values.proofs.Ascii.{own_text}
use Rattle.jx_line_values.proofs.texts.is_its_text.Goals as goal

pub returns : goal.returns
returns c h = own_text (between_marks c.args.string.now) (ap (list_all is_itself) (sym c.between_marks.ensures) ∙ sym c.are_themselves.ensures ∙ h)
