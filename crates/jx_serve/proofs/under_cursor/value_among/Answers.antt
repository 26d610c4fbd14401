use Rattle.std.proofs.Common.{refl}
use Rattle.jx_serve.proofs.Innermosts.{in_none_around}
use Rattle.jx_serve.proofs.under_cursor.value_among.Goals as goal

pub returns-in-None : goal.returns-in-None
returns-in-None c = in_none_around c.args.settings.now c.args.text.now c.args.offset c.args.rows.now c.requires (c.in-None.ensures.none refl)
