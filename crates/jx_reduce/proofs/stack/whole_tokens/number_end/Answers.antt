use Rattle.std.proofs.Common.{◌+◌, ◌∙◌, List, ap, arith, refl, subst, sym}
use Rattle.std.specs.Prelude.{slice_index}
use Rattle.jx_reduce.specs.Read.{went}
use Rattle.jx_reduce.specs.inside.Passed.{Reads}
use Rattle.jx_reduce.specs.declared.table.expect.Expect.TheVariants as expected
use Rattle.jx_reduce.specs.declared.table.holder.Holder.{Holder}
use Rattle.jx_reduce.proofs.Passed.{reads-none, reads-number_blank, reads-number_mark}
use Rattle.jx_reduce.proofs.stack.whole_tokens.number_end.Goals as goal
use Rattle.jx_lex.specs.declared.alphabet.mark.MarkKind.{MarkKind}
use Rattle.jx_reduce.proofs.Sees.{mark_of, sees-none, sees-of, passes-number_leave, passes-number_blank, by_mark, two}
use Rattle.std.proofs.Common.{[], ◌∷◌}

pub returns-in-Some-clause-reads : goal.returns-in-Some-clause-reads
returns-in-Some-clause-reads g c = λ depth.
    let e = c.args.end in
    reads-number_mark depth c.args.text.now c.args.at.now e (slice_index c.args.text.now e) c.args.expect c.in-Some.then (g.H.Containers.list c.args.holders.now) (g.H.Containers.list c.leave.new.holders) c.requires.number c.requires.takes
    c.requires.bounds.1 refl c.in-Some.ensures.some

pub returns-in-None-clause-reads : goal.returns-in-None-clause-reads
returns-in-None-clause-reads g c = λ depth.
    let xs = c.args.text.now in
    let a = c.args.at.now in
    let e = c.args.end in
    subst (λ (t : List Holder). Reads depth xs a (e + 1) (went c.args.expect (g.H.Containers.list c.args.holders.now)) (went expected.After t)) (sym (c.in-None.ensures.none refl))
    (reads-number_blank depth xs a e c.args.expect (g.H.Containers.list c.args.holders.now) c.requires.number c.requires.takes c.requires.bounds.1 (c.is_blank.ensures c.if-is_blank.true))

pub returns-in-None-2-clause-reads : goal.returns-in-None-2-clause-reads
returns-in-None-2-clause-reads g c = λ depth.
    let b = c.requires.bounds in
    let before = went c.args.expect (g.H.Containers.list c.args.holders.now) in
    subst (λ (t : List Holder). Reads depth c.args.text.now c.args.at.now c.args.at.now before (went c.args.expect t)) (sym (c.in-None-2.ensures.none refl))
    (reads-none depth c.args.text.now c.args.at.now before (omega (arith, b)))

pub returns-in-Some-clause-seen : goal.returns-in-Some-clause-seen
returns-in-Some-clause-seen g c =
    let xs = c.args.text.now in
    let e = c.args.end in
    let zero = g.W.Watch.has_seen c.args.watch.now in
    let one = g.W.Watch.has_seen c.token.new.self in
    let two_ = g.W.Watch.has_seen c.mark.new.self in
    sees-of zero two_ xs c.args.at.now (e + 1) _ (e ∷ [])
    (passes-number_leave xs c.args.at.now e (slice_index xs e) c.in-Some.then (g.H.Containers.list c.args.holders.now) (g.H.Containers.list c.leave.new.holders) c.requires.number c.requires.bounds.1 refl c.in-Some.ensures.some)
    (two zero one two_ _ _ (e ∷ []) [] (by_mark zero one c.mark_at.result _ (e ∷ []) c.mark_at.ensures c.token.ensures.seen)
    (by_mark one two_ c.mark_at-in-Some.result _ [] (c.mark_at-in-Some.ensures ∙ ap (λ (k : MarkKind). mark_of k e) c.leave_kind.ensures.value) c.mark.ensures.seen))

pub returns-in-None-clause-seen : goal.returns-in-None-clause-seen
returns-in-None-clause-seen g c =
    let xs = c.args.text.now in
    let e = c.args.end in
    let zero = g.W.Watch.has_seen c.args.watch.now in
    let one = g.W.Watch.has_seen c.token-in-None.new.self in
    sees-of zero one xs c.args.at.now (e + 1) _ (e ∷ []) (passes-number_blank xs c.args.at.now e c.requires.number c.requires.bounds.1 (c.is_blank.ensures c.if-is_blank.true))
    (by_mark zero one c.mark_at-in-None.result _ (e ∷ []) c.mark_at-in-None.ensures c.token-in-None.ensures.seen)

pub returns-in-None-2-clause-seen : goal.returns-in-None-2-clause-seen
returns-in-None-2-clause-seen g c = sees-none (g.W.Watch.has_seen c.args.watch.now) c.args.text.now c.args.at.now
