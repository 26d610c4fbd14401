use Rattle.std.proofs.Common.{◌≡◌, ◌≤◌, ◌∙◌, length, sym, arith}
use Rattle.jx_sentence.proofs.Standings.{standing_from}
use Rattle.jx_sentence.proofs.whole.standing_before.Goals as goal

pub returns : goal.returns
returns c =
    let low : c.in-Skip.from ≤ c.args.at = omega arith in
    let high : c.args.at ≤ length c.args.text.now = omega arith in
    standing_from c.args.settings.now c.args.text.now c.in-Skip.from c.args.at c.standing_behind.result (sym c.front.ensures.value ∙ c.in-Skip.is) low high
    c.standing_behind.ensures.stands c.standing_behind.ensures.token c.standing_behind.ensures.none
