use Rattle.std.proofs.Common.{length, refl}
use Rattle.std.proofs.lemmas.Option.{slice_get_read}
use Rattle.jx_serve.proofs.Innermosts.{value_around}
use Rattle.jx_serve.proofs.under_cursor.value_of.Goals as goal

pub returns : goal.returns
returns c =
    let table = c.args.rows.now in
    let number = c.args.number in
    value_around c.args.settings.now c.args.text.now c.args.offset number table c.index-rows-number.result c.in_ok-pointer.pointer c.requires.around c.requires.innermost
    (slice_get_read table (length table) number c.index-rows-number.result refl c.requires.within c.index-rows-number.is) c.in_ok-pointer.ensures
