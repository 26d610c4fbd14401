use Rattle.std.proofs.Common.{arith, ap, ◌∙◌, take}
use Rattle.std.proofs.lemmas.List.{take_all}
use Rattle.jx_edit.specs.declared.positions.position.Position.{Position}
use Rattle.jx_edit.specs.inside.Chunks.{text_of}
use Rattle.jx_edit.specs.Positions.{first, position_behind}
use Rattle.jx_edit.proofs.chunking.sums.moves_of.Goals as goal

pub returns-in-Some : goal.returns-in-Some
returns-in-Some c =
    let text = text_of c.args.chunks.now in
    c.position_in-position.ensures
    ∙ ap (λ (p : Position). position_behind c.in-Some.encoding p (take 18446744073709551615 text)) c.first.ensures
    ∙ ap (position_behind c.in-Some.encoding first) (take_all 18446744073709551615 text (omega (arith, c.requires)))
