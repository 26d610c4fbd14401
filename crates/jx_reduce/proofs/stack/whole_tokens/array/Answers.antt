use Rattle.std.proofs.Common.{[], ◌∷◌, ◌+◌, ◌<◌, List, arith, length, refl, subst, sym}
use Rattle.jx_reduce.specs.Read.{went}
use Rattle.jx_reduce.specs.inside.Passed.{Reads}
use Rattle.jx_reduce.specs.declared.table.holder.Holder.{Holder}
use Rattle.jx_reduce.specs.declared.table.expect.Expect.TheVariants as expected
use Rattle.jx_reduce.specs.declared.table.holder.Holder.TheVariants.{Array}
use Rattle.jx_reduce.proofs.Passed.{reads-blank, reads-close_array, reads-none, reads-open_array, reads-then}
use Rattle.jx_reduce.proofs.stack.whole_tokens.array.Goals as goal
use Rattle.jx_reduce.proofs.Sees.{sees-none, sees-of, passes-then, by_mark, two, stays}
use Rattle.jx_lex.proofs.Whole.{passes-none, passes-open_array, passes-close_array}

pub returns-then-len-most-clause-reads : goal.returns-then-len-most-clause-reads
returns-then-len-most-clause-reads g c =
    let b = c.requires.bounds in
    reads-none c.args.most c.args.text.now c.args.at.now (went c.args.expect (g.H.Containers.list c.args.holders.now)) (omega (arith, b))

pub returns-then-text-first-eq93-clause-reads : goal.returns-then-text-first-eq93-clause-reads
returns-then-text-first-eq93-clause-reads g c =
    let xs = c.args.text.now in
    let d = c.args.most in
    let s = g.H.Containers.list c.args.holders.now in
    let a = c.args.at.now in
    let i = c.skip.new.at in
    let b = c.requires.bounds in
    let room = c.if-skip.ensures.room in
    let len = c.len.ensures in
    let less = c.if-len-most.false in
    let low : length s < d = omega (arith, len, less) in
    reads-then d xs a (a + 1) (i + 1) (went c.args.expect s) (went expected.ArrayFirst (Array ∷ s)) (went expected.After s)
    (reads-open_array d xs a c.args.expect s (omega (arith, b)) c.requires.bracket c.requires.takes low)
    (reads-then d xs (a + 1) i (i + 1) (went expected.ArrayFirst (Array ∷ s)) (went expected.ArrayFirst (Array ∷ s)) (went expected.After s)
    (reads-blank d xs (a + 1) i (went expected.ArrayFirst (Array ∷ s)) c.skip.ensures.passes)
    (reads-close_array d xs i expected.ArrayFirst expected.After (Array ∷ s) s (omega (arith, b, room)) c.if-text-first-eq93.true refl refl))

pub returns-in-Ok-clause-reads : goal.returns-in-Ok-clause-reads
returns-in-Ok-clause-reads g c =
    let xs = c.args.text.now in
    let d = c.args.most in
    let s = g.H.Containers.list c.args.holders.now in
    let a = c.args.at.now in
    let i = c.skip.new.at in
    let b = c.requires.bounds in
    let len = c.len.ensures in
    let less = c.if-len-most.false in
    let low : length s < d = omega (arith, len, less) in
    subst (λ (t : List Holder). Reads d xs a i (went c.args.expect s) (went expected.ArrayFirst t)) (sym c.in-Ok.ensures.ok)
    (reads-then d xs a (a + 1) i (went c.args.expect s) (went expected.ArrayFirst (Array ∷ s)) (went expected.ArrayFirst (Array ∷ s))
    (reads-open_array d xs a c.args.expect s (omega (arith, b)) c.requires.bracket c.requires.takes low)
    (reads-blank d xs (a + 1) i (went expected.ArrayFirst (Array ∷ s)) c.skip.ensures.passes))

pub returns-in-Err-clause-reads : goal.returns-in-Err-clause-reads
returns-in-Err-clause-reads g c =
    let b = c.requires.bounds in
    let before = went c.args.expect (g.H.Containers.list c.args.holders.now) in
    subst (λ (t : List Holder). Reads c.args.most c.args.text.now c.args.at.now c.args.at.now before (went c.args.expect t)) (sym c.in-Err.ensures.err)
    (reads-none c.args.most c.args.text.now c.args.at.now before (omega (arith, b)))

pub returns-then-len-most-clause-seen : goal.returns-then-len-most-clause-seen
returns-then-len-most-clause-seen g c = sees-none (g.W.Watch.has_seen c.args.watch.now) c.args.text.now c.args.at.now

pub returns-then-text-first-eq93-clause-seen : goal.returns-then-text-first-eq93-clause-seen
returns-then-text-first-eq93-clause-seen g c =
    let xs = c.args.text.now in
    let a = c.args.at.now in
    let i = c.skip.new.at in
    let b = c.requires.bounds in
    let room = c.if-skip.ensures.room in
    let zero = g.W.Watch.has_seen c.args.watch.now in
    let one = g.W.Watch.has_seen c.args.watch.now in
    let two_ = g.W.Watch.has_seen c.mark.new.self in
    let three = g.W.Watch.has_seen c.mark-then-text-first-eq93.new.self in
    sees-of zero three xs a (i + 1) _ []
    (passes-then xs a i (i + 1) _ _ [] [] (passes-then xs a (a + 1) i _ [] [] [] (passes-open_array xs a (omega (arith, b)) c.requires.bracket) c.skip.ensures.passes)
    (passes-close_array xs i (omega (arith, b, room)) c.if-text-first-eq93.true))
    (two zero two_ three _ _ [] [] (two zero one two_ [] _ [] [] (stays (g.W.Watch.has_seen c.args.watch.now)) (by_mark one two_ c.mark_at.result _ [] c.mark_at.ensures c.mark.ensures.seen))
    (by_mark two_ three c.mark_at-then-text-first-eq93.result _ [] c.mark_at-then-text-first-eq93.ensures c.mark-then-text-first-eq93.ensures.seen))

pub returns-in-Ok-clause-seen : goal.returns-in-Ok-clause-seen
returns-in-Ok-clause-seen g c =
    let xs = c.args.text.now in
    let a = c.args.at.now in
    let i = c.skip.new.at in
    let b = c.requires.bounds in
    let zero = g.W.Watch.has_seen c.args.watch.now in
    let one = g.W.Watch.has_seen c.args.watch.now in
    let two_ = g.W.Watch.has_seen c.mark-in-Ok.new.self in
    sees-of zero two_ xs a i _ [] (passes-then xs a (a + 1) i _ [] [] [] (passes-open_array xs a (omega (arith, b)) c.requires.bracket) c.skip.ensures.passes)
    (two zero one two_ [] _ [] [] (stays (g.W.Watch.has_seen c.args.watch.now)) (by_mark one two_ c.mark_at-in-Ok.result _ [] c.mark_at-in-Ok.ensures c.mark-in-Ok.ensures.seen))

pub returns-in-Err-clause-seen : goal.returns-in-Err-clause-seen
returns-in-Err-clause-seen g c =
    let b = c.requires.bounds in
    sees-of (g.W.Watch.has_seen c.args.watch.now) (g.W.Watch.has_seen c.args.watch.now) c.args.text.now c.args.at.now c.args.at.now [] [] (passes-none c.args.text.now c.args.at.now (omega (arith, b))) (stays (g.W.Watch.has_seen c.args.watch.now))
