use Rattle.std.proofs.Common.{rules, ◌≡◌, length, sym, ap, ◌∙◌}
use Rattle.std.specs.Vec.{vec_len}
use Rattle.jx_claim.specs.inside.Listed.{listed}
use Rattle.jx_claim.proofs.Pieces.{length-regular, length-between}
use Rattle.jx_claim.proofs.piece_list.PieceList.count.Goals as goal

pub returns-in-Every : goal.returns-in-Every
returns-in-Every c = λ len. sym (ap (λ p. length (listed len p)) c.in-Every.is ∙ length-regular len c.in-Every.size c.in-Every.count 0)

pub returns-in-At : goal.returns-in-At
returns-in-At c = λ len.
    c.len.ensures ∙ (let same : vec_len c.in-At.ends ≡ length c.in-At.ends.items = search rules in same) ∙ sym (ap (λ p. length (listed len p)) c.in-At.is ∙ length-between 0 c.in-At.ends.items)
