use Rattle.std.proofs.Common.{sym, ◌∙◌, inl}
use Rattle.jx_serve.proofs.Sounds.{natural_number}
use Rattle.jx_serve.proofs.plain.is_plain_value.Goals as goal

pub returns-else-is_some : goal.returns-else-is_some
returns-else-is_some c = λ e. inl (natural_number c.args.bytes.now (sym c.is_natural.ensures ∙ e))
