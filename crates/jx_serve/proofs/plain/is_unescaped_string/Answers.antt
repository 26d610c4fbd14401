use Rattle.std.proofs.Common.{sym, ◌∙◌}
use Rattle.jx_serve.proofs.Characters.{a_text_string}
use Rattle.jx_serve.proofs.plain.is_unescaped_string.Goals as goal

pub returns-then-are_ordinary : goal.returns-then-are_ordinary
returns-then-are_ordinary c = λ yes. a_text_string c.args.bytes.now c.in-Some.inside.now c.in-Some.ensures (sym c.are_ordinary.ensures ∙ c.if-are_ordinary.true) (c.is_utf8.ensures yes)
