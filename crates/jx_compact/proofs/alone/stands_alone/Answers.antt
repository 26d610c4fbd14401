use Rattle.std.proofs.Common.{sym, ◌∙◌}
use Rattle.jx_compact.proofs.OneToken.{bare_place, bare_stay, string_place, string_stays}
use Rattle.jx_compact.proofs.alone.stands_alone.Goals as goal

pub returns-then-bytes-len-eq34-clause-stays : goal.returns-then-bytes-len-eq34-clause-stays
returns-then-bytes-len-eq34-clause-stays c = λ on.
    string_stays c.args.bytes.now c.if-len-ge2.true c.if-bytes-eq34.true c.if-bytes-len-eq34.true (sym c.are_inner.ensures ∙ on)

pub returns-then-bytes-len-eq34-clause-place : goal.returns-then-bytes-len-eq34-clause-place
returns-then-bytes-len-eq34-clause-place c = λ on.
    string_place c.args.bytes.now c.if-len-ge2.true c.if-bytes-eq34.true c.if-bytes-len-eq34.true (sym c.are_inner.ensures ∙ on)

pub returns-clause-stays : goal.returns-clause-stays
returns-clause-stays c = λ on. bare_stay c.args.bytes.now (sym c.are_bare.ensures ∙ on)

pub returns-clause-place : goal.returns-clause-place
returns-clause-place c = λ on. bare_place c.args.bytes.now (sym c.are_bare.ensures ∙ on)
