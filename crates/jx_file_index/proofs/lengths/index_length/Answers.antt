use Rattle.std.proofs.Common.{◌≡◌, ◌+◌, ◌*◌, arith, length, sym, ◌∙◌}
use Rattle.std.specs.Prelude.{None, Some}
use Rattle.jx_lex.proofs.Running.{take-again}
use Rattle.jx_file_index.proofs.IndexLengths.{front_split, no_longer, spelt_long}
use Rattle.jx_file_index.proofs.lengths.index_length.Goals as goal

pub returns-in_default-clause-index : goal.returns-in_default-clause-index
returns-in_default-clause-index c = λ i rest savable is.
    let known : c.length_by.result ≡ Some (64 + 24 * length i.entries.items) = c.length_by.ensures.known i _ savable (is ∙ front_split i rest) in
    let none : c.length_by.result ≡ None = c.in_default.is in
    absurd (let e : None ≡ Some (64 + 24 * length i.entries.items) = sym none ∙ known in cc)

pub returns-then-len-bytes-clause-front : goal.returns-then-len-bytes-clause-front
returns-then-len-bytes-clause-front c = take-again 8 c.in-Some.len c.args.bytes.now (let l = c.in-Some.ensures.least in omega (arith, l))

pub returns-then-len-bytes-clause-index : goal.returns-then-len-bytes-clause-index
returns-then-len-bytes-clause-index c = λ i rest savable is.
    let known : c.length_by.result ≡ Some (64 + 24 * length i.entries.items) = c.length_by.ensures.known i _ savable (is ∙ front_split i rest) in
    let some : c.length_by.result ≡ Some c.in-Some.len = c.in-Some.is in
    let e : Some c.in-Some.len ≡ Some (64 + 24 * length i.entries.items) = sym some ∙ known in
    let same : c.in-Some.len ≡ 64 + 24 * length i.entries.items = cc in
    same ∙ sym (spelt_long i)

pub returns-clause-index : goal.returns-clause-index
returns-clause-index c = λ i rest savable is.
    let known : c.length_by.result ≡ Some (64 + 24 * length i.entries.items) = c.length_by.ensures.known i _ savable (is ∙ front_split i rest) in
    let some : c.length_by.result ≡ Some c.in-Some.len = c.in-Some.is in
    let e : Some c.in-Some.len ≡ Some (64 + 24 * length i.entries.items) = sym some ∙ known in
    let same : c.in-Some.len ≡ 64 + 24 * length i.entries.items = cc in
    let low = c.if-len-bytes.false in
    no_longer i c.args.bytes.now rest c.in-Some.len is same (omega (arith, low))
