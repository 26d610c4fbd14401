use Rattle.std.proofs.Common.{codes, refl}
use Rattle.jx_wire.proofs.parameters.shows_nested.Goals as goal

pub returns : goal.returns
returns c =
    let document = c.member-document.ensures refl (codes "/params/capabilities") (c.member-capabilities.ensures refl (codes "/params") c.requires) in
    let symbols = c.member-symbols.ensures refl (codes "/params/capabilities/textDocument") document in
    c.is_true.ensures refl (codes "/params/capabilities/textDocument/documentSymbol") symbols
