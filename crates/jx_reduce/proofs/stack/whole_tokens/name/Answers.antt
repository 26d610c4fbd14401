use Rattle.std.proofs.Common.{◌<◌, arith, [], ◌∷◌}
use Rattle.jx_reduce.specs.Read.{went}
use Rattle.jx_reduce.specs.declared.table.expect.Expect.TheVariants as expected
use Rattle.jx_reduce.proofs.Passed.{reads-blank, reads-string, reads-then}
use Rattle.jx_reduce.proofs.stack.whole_tokens.name.Goals as goal
use Rattle.jx_reduce.proofs.Sees.{sees-of, sees-passed, by_mark, stays}

pub returns-clause-named : goal.returns-clause-named
returns-clause-named g c = λ yes depth holders.
    let xs = c.args.text.now in
    let i = c.skip.new.at in
    let e = c.args.expect in
    let end = c.pass_string-end.result in
    let k = c.pass_string-end.ensures.bounds in
    let no = c.if-end-at.false in
    let further : i < end = omega (arith, k, no) in
    reads-then depth xs c.args.at.now i end (went e holders) (went e holders) (went expected.Colon holders)
    (reads-blank depth xs c.args.at.now i (went e holders) c.skip.ensures.passes)
    (reads-string depth xs i end e expected.Colon holders (c.pass_string-end.ensures.passes further) c.requires.takes)

pub returns-clause-seen : goal.returns-clause-seen
returns-clause-seen g c =
    let xs = c.args.text.now in
    let i = c.skip.new.at in
    let end = c.pass_string-end.result in
    let k = c.pass_string-end.ensures.bounds in
    let no = c.if-end-at.false in
    let further : i < end = omega (arith, k, no) in
    let old = g.W.Watch.has_seen c.args.watch.now in
    let mid = g.W.Watch.has_seen c.args.watch.now in
    let new = g.W.Watch.has_seen c.named.new.self in
    sees-passed old mid new xs c.args.at.now i end [] [] c.skip.ensures.passes (stays (g.W.Watch.has_seen c.args.watch.now)) k.0
    (sees-of mid new xs i end _ (end ∷ []) (c.pass_string-end.ensures.passes further) (by_mark mid new c.mark_at.result _ (end ∷ []) c.mark_at.ensures c.named.ensures.seen))
