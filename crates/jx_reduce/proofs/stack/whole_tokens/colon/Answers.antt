use Rattle.std.proofs.Common.{◌+◌, arith, []}
use Rattle.jx_reduce.specs.Read.{went}
use Rattle.jx_reduce.specs.declared.table.expect.Expect.TheVariants as expected
use Rattle.jx_reduce.proofs.Passed.{reads-blank, reads-colon, reads-then}
use Rattle.jx_reduce.proofs.stack.whole_tokens.colon.Goals as goal
use Rattle.jx_reduce.proofs.Sees.{sees-of, sees-passed, by_mark, stays}
use Rattle.jx_lex.proofs.Whole.{passes-colon}

pub returns-clause-reads : goal.returns-clause-reads
returns-clause-reads g c = λ depth holders.
    let xs = c.args.text.now in
    let i = c.skip.new.at in
    let b = c.requires.bounds in
    let room = c.if-not-skip.ensures.room in
    reads-then depth xs c.args.at.now i (i + 1) (went expected.Colon holders) (went expected.Colon holders) (went expected.Value holders)
    (reads-blank depth xs c.args.at.now i (went expected.Colon holders) c.skip.ensures.passes)
    (reads-colon depth xs i holders (omega (arith, b, room)) c.if-text-at-ne58.false)

pub returns-clause-seen : goal.returns-clause-seen
returns-clause-seen g c =
    let xs = c.args.text.now in
    let i = c.skip.new.at in
    let b = c.requires.bounds in
    let room = c.if-not-skip.ensures.room in
    let old = g.W.Watch.has_seen c.args.watch.now in
    let mid = g.W.Watch.has_seen c.args.watch.now in
    let new = g.W.Watch.has_seen c.mark.new.self in
    sees-passed old mid new xs c.args.at.now i (i + 1) [] [] c.skip.ensures.passes (stays (g.W.Watch.has_seen c.args.watch.now)) (omega arith)
    (sees-of mid new xs i (i + 1) _ [] (passes-colon xs i (omega (arith, b, room)) c.if-text-at-ne58.false) (by_mark mid new c.mark_at.result _ [] c.mark_at.ensures c.mark.ensures.seen))
