use Rattle.std.proofs.Common.{◌≡◌, ◌+◌, ◌-◌, ℕ, not, slice_index, subst, arith}
use Rattle.std.specs.Slice.Scan.{IsFirstPlace}
use Rattle.jx_lex.specs.Uneventful.{is_plain}
use Rattle.jx_names.proofs.PlainNames.{plain_name}
use Rattle.jx_names.proofs.name_bytes.is_plain.Goals as goal

pub returns-clause-plain : goal.returns-clause-plain
returns-clause-plain c = λ _.
    let a = c.args in
    let bounds = c.requires in
    let low = bounds.0 in
    let short = c.if-to-from-lt2.false in
    let past = c.if-end-to.false in
    let high = c.plain_end-end.ensures.bounds.1 in
    let last : c.plain_end-end.result ≡ a.to - 1 = omega (arith, past, high) in
    plain_name a.text.now a.from a.to (omega (arith, low, short)) bounds.1 (subst (IsFirstPlace (λ (k : ℕ). not (is_plain (slice_index a.text.now k))) (a.from + 1) (a.to - 1)) last c.plain_end-end.ensures.first)
