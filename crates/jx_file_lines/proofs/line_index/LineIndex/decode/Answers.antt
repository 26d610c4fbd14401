use Rattle.std.proofs.Common.{◌≡◌, ◌∙◌, false, sym}
use Rattle.std.specs.Prelude.{IsTrue}
use Rattle.jx_file_lines.proofs.Decodings.{same_spelt}
use Rattle.jx_file_lines.proofs.line_index.LineIndex.decode.Goals as goal

pub returns-else-is_same-clause-only : goal.returns-else-is_same-clause-only
returns-else-is_same-clause-only c = λ i savable is.
    let told : IsTrue c.is_same.result = c.is_same.ensures.told (c.deref.ensures.value ∙ c.in_ok-spelt.ensures ∙ same_spelt c.in_ok-index.index i (c.in_ok-index.ensures.reads i savable is) ∙ sym is) in
    let not : c.is_same.result ≡ false = c.if-is_same.false in
    absurd (cc)
