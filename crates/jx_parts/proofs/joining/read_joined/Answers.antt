use Rattle.std.proofs.Common.{None, sym, ◌∙◌, subst, arith}
use Rattle.std.proofs.lemmas.Result.{err_from_is_err_and}
use Rattle.jx_parts.specs.inside.Reading.{IsNext}
use Rattle.jx_parts.proofs.Heads.{records_told}
use Rattle.jx_parts.proofs.RecordSteps.{counted_first, counted_next, joined_all, taken_deep}
use Rattle.jx_parts.proofs.Refused.{behind_taken, in_front, joins_apart, joins_by}
use Rattle.jx_parts.proofs.joining.read_joined.Goals as goal

pub loop-number-init : goal.loop-number-init
loop-number-init g c =
    let old = g.S.Source.remaining c.args.reader.now in
    let new = g.S.Source.remaining c.next_portion.new.reader in
    (c.in_ok-first.ensures.going, counted_first c.args.depth old new c.in-Some.first (subst (IsNext c.args.depth old new) c.in-Some.is c.in_ok-first.ensures.ok))

pub loop-number-preserved : goal.loop-number-preserved
loop-number-preserved g c =
    let old = g.S.Source.remaining c.args.reader.now in
    let mid = g.S.Source.remaining c.loop-number.reader in
    let new = g.S.Source.remaining c.next_portion-in-loop-number.new.reader in
    let next = subst (IsNext c.args.depth mid new) c.in-Some-2.is c.in_ok-next.ensures.ok in (
      c.in_ok-next.ensures.going,
      counted_next c.args.depth c.loop-number.number _ old mid new c.loop-number.joined c.in-Some-2.next c.in_ok-joined.joined c.loop-number.invariant.1 (omega arith) next c.in_ok-joined.ensures.meets
          c.in_ok-joined.ensures.from c.in_ok-joined.ensures.end c.in_ok-joined.ensures.depth c.in_ok-joined.ensures.of,
    )

pub returns-in_default-2-clause-ok : goal.returns-in_default-2-clause-ok
returns-in_default-2-clause-ok g c =
    let old = g.S.Source.remaining c.args.reader.now in
    let mid = g.S.Source.remaining c.loop-number.reader in
    let new = g.S.Source.remaining c.next_portion-in-loop-number.new.reader in
    let end = subst (IsNext c.args.depth mid new) c.in_default-2.is c.in_ok-next.ensures.ok in
    joined_all c.args.depth old mid new c.loop-number.joined records_told c.loop-number.invariant.1.taken end

pub returns-in_err-first-clause-refused : goal.returns-in_err-first-clause-refused
returns-in_err-first-clause-refused g c = λ stream known.
    let is = joins_by c.args.depth stream stream 0 None 0 c.in_err-first.field-0.0 (in_front c.args.depth stream) (c.in_err-first.ensures.refused stream known) in
    let p = err_from_is_err_and c.from_residual.result c.from_residual.ensures.1 in
    rw (p.1, p.2) is

pub returns-in_err-next-clause-refused : goal.returns-in_err-next-clause-refused
returns-in_err-next-clause-refused g c = λ stream known.
    let old = g.S.Source.remaining c.args.reader.now in
    let mid = g.S.Source.remaining c.loop-number.reader in
    let joined = c.loop-number.joined in
    let number = c.loop-number.number in
    let behind = behind_taken c.args.depth number old mid joined stream known c.loop-number.invariant.1 in
    let is = joins_by c.args.depth stream behind.0 number joined.from joined.run.end c.in_err-next.field-0.0 behind.2 (c.in_err-next.ensures.refused behind.0 behind.1) in
    let p = err_from_is_err_and c.from_residual-in_err-next.result c.from_residual-in_err-next.ensures.1 in
    rw (p.1, p.2) is

pub join_next-requires : goal.join_next-requires
join_next-requires g c =
    let mid = g.S.Source.remaining c.loop-number.reader in
    let new = g.S.Source.remaining c.next_portion-in-loop-number.new.reader in
    let next = subst (IsNext c.args.depth mid new) c.in-Some-2.is c.in_ok-next.ensures.ok in
    record { depths = c.loop-number.invariant.1.taken.deep ∙ sym (taken_deep c.args.depth mid new c.in-Some-2.next next) }

pub returns-in_err-joined-clause-refused : goal.returns-in_err-joined-clause-refused
returns-in_err-joined-clause-refused g c = λ stream known.
    let old = g.S.Source.remaining c.args.reader.now in
    let mid = g.S.Source.remaining c.loop-number.reader in
    let new = g.S.Source.remaining c.next_portion-in-loop-number.new.reader in
    let next = subst (IsNext c.args.depth mid new) c.in-Some-2.is c.in_ok-next.ensures.ok in
    let is = joins_apart c.args.depth c.loop-number.number old mid new c.loop-number.joined c.in-Some-2.next stream c.in_err-joined.field-0.0 known c.loop-number.invariant.1 next
    c.in_err-joined.ensures.refused in
    let p = err_from_is_err_and c.from_residual-in_err-joined.result c.from_residual-in_err-joined.ensures.1 in
    rw (p.1, p.2) is
