use Rattle.std.proofs.Common.{◌≡◌, ◌++◌, false}
use Rattle.std.specs.Prelude.{IsTrue}
use Rattle.jx_file_index.specs.TextSpelling.{names_tag}
use Rattle.jx_file_index.proofs.TextDecodings.{behind_index}
use Rattle.jx_file_index.proofs.text_decoding.index_end.Goals as goal

pub returns-then-is_tagged-clause-index : goal.returns-then-is_tagged-clause-index
returns-then-is_tagged-clause-index c = λ i rest savable is. c.index_length-len.ensures.index i (names_tag ++ rest) savable is

pub returns-else-is_tagged-clause-index : goal.returns-else-is_tagged-clause-index
returns-else-is_tagged-clause-index c = λ i rest savable is.
    let long = c.index_length-len.ensures.index i (names_tag ++ rest) savable is in
    let told : IsTrue c.is_tagged.result =
    c.is_tagged.ensures.tagged rest (behind_index c.args.bytes.now c.index_length-len.result i (names_tag ++ rest) c.index_length-len.ensures.within long is) in
    let unlike : c.is_tagged.result ≡ false = c.if-is_tagged.false in
    absurd (cc)
