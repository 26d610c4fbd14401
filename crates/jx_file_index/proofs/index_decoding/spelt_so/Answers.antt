use Rattle.std.proofs.Common.{◌≡◌, ◌∙◌, false}
use Rattle.std.specs.Prelude.{IsTrue}
use Rattle.jx_file_index.proofs.index_decoding.spelt_so.Goals as goal

pub returns-else-is_same-clause-only : goal.returns-else-is_same-clause-only
returns-else-is_same-clause-only c = λ e.
    let told : IsTrue c.is_same.result = c.is_same.ensures.told (c.as_slice.ensures.value ∙ c.in_ok-spelt.ensures ∙ e) in
    let not : c.is_same.result ≡ false = c.if-is_same.false in
    absurd (cc)
