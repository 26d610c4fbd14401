use Rattle.std.proofs.Common.{◌∙◌, ℕ, List, Option, ap, codes, refl, sym}
use Rattle.jx_wire.specs.Requests.{content_by, items_in, text_in}
use Rattle.jx_wire.proofs.content.content_of.Goals as goal

pub returns : goal.returns
returns c = λ tree is.
    let name : List ℕ = c.args.uri.now.name.items in
    let language = ap text_in (c.value_in.ensures.at refl (codes "/params/textDocument") c.requires tree is) ∙ c.in_ok-language.ensures c.value_in.ensures.spelt in
    ap (λ (o : Option (List ℕ)). content_by o name) language ∙ ap (λ (l : List ℕ). content_by (items_in c.in_ok-language.language) l) (sym c.deref.ensures.value) ∙ sym c.content_by.ensures
