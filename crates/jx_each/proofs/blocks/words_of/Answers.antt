use Rattle.std.proofs.Common.{refl}
use Rattle.std.proofs.lemmas.Nat.{xor_lt}
use Rattle.jx_each.proofs.Words.{words_tell}
use Rattle.jx_each.proofs.blocks.words_of.Goals as goal

pub returns : goal.returns
returns c =
    words_tell c.args.block c.args.inside _ c.lowest.result c.quotes.result c.backslashes-slashes.result c.escaped_by-escaped.result c.brackets.result c.borders.result c.fits-block.0
    (xor_lt 64 c.parities.result c.all.result c.parities.type_inv c.all.type_inv) c.escaped_by-escaped.type_inv c.lowest.ensures.first c.lowest.ensures.others
    c.quotes.ensures c.backslashes-slashes.ensures c.brackets.ensures c.borders.ensures refl refl refl c.gaps.ensures c.if-wrong-ne0.false c.if-astray-ne0.false
    c.in-Some.ensures.bounds c.in-Some.ensures.ends
