use Rattle.std.proofs.Common.{[], ℕ, ◌+◌, ◌∙◌, List, ap, arith, refl, subst, sym}
use Rattle.std.specs.Prelude.{slice_index}
use Rattle.jx_reduce.specs.Read.{went}
use Rattle.jx_reduce.specs.inside.Passed.{Leaves, Reads}
use Rattle.jx_reduce.specs.declared.table.expect.Expect.{Expect}
use Rattle.jx_reduce.specs.declared.table.expect.Expect.TheVariants as expected
use Rattle.jx_reduce.specs.declared.table.holder.Holder.{Holder}
use Rattle.jx_lex.specs.Whole.{Passes}
use Rattle.jx_lex.specs.declared.alphabet.mark.MarkKind.{MarkKind}
use Rattle.jx_reduce.proofs.Sees.{mark_of, sees-none, sees-of, sees-on, sees-read, passes-leave, by_mark, stays}
use Rattle.jx_reduce.proofs.Passed.{reads-blank, reads-leave, reads-none, reads-then}
use Rattle.jx_reduce.proofs.stack.whole_tokens.after.Goals as goal

-- past the blanks
up_to : (d : ℕ) (xs : List ℕ) (a b i : ℕ) (s t : List Holder) → Reads d xs a b (went expected.After s) (went expected.After t) → Passes xs b i [] [] → Reads d xs a i (went expected.After s) (went expected.After t)
up_to d xs a b i s t r p = reads-then d xs a b i (went expected.After s) (went expected.After t) (went expected.After t) r (reads-blank d xs b i (went expected.After t) p)

pub loop-init : goal.loop-init
loop-init g c = let b = c.requires.bounds in record { low = omega arith; high = b.0; reads = λ depth. reads-none depth c.args.text.now c.args.at.now (went expected.After (g.H.Containers.list c.args.holders.now)) (omega (arith, b)); seen = sees-none (g.W.Watch.has_seen c.args.watch.now) c.args.text.now c.args.at.now; turn = c.requires.turn }

pub returns-in-Some : goal.returns-in-Some
returns-in-Some g c =
    let v = c.loop.invariant in
    let low = v.low in
    let xs = c.args.text.now in
    let a = c.args.at.now in
    let i = c.skip.new.at in
    let s = g.H.Containers.list c.loop.holders in
    let b = c.requires.bounds in
    let k = c.skip.ensures.bounds in
    let room = c.if-not-skip.ensures.room in
    record {
      bounds = (omega (arith, low, k), omega (arith, room));
      reads = λ depth.
          reads-then depth xs a i (i + 1) (went expected.After (g.H.Containers.list c.args.holders.now)) (went expected.After s) (went c.in-Some.then (g.H.Containers.list c.leave.new.holders))
          (up_to depth xs a c.loop.at i (g.H.Containers.list c.args.holders.now) s (v.reads depth) c.skip.ensures.passes)
          (reads-leave depth xs i (slice_index xs i) c.in-Some.then s (g.H.Containers.list c.leave.new.holders) (omega (arith, b, room)) refl c.in-Some.ensures.some);
      seen =
          sees-on (g.W.Watch.has_seen c.args.watch.now) (g.W.Watch.has_seen c.loop.watch) (g.W.Watch.has_seen c.mark-in-Some.new.self) xs a i (i + 1) (omega (arith, low, k)) (omega arith) (omega (arith, b, room))
          (up_to 0 xs a c.loop.at i (g.H.Containers.list c.args.holders.now) s (v.reads 0) c.skip.ensures.passes).exit
          (sees-read (g.W.Watch.has_seen c.args.watch.now) (g.W.Watch.has_seen c.loop.watch) (g.W.Watch.has_seen c.loop.watch) 0 xs a c.loop.at i _ _ (v.reads 0) k.0 v.seen
          (sees-of (g.W.Watch.has_seen c.loop.watch) (g.W.Watch.has_seen c.loop.watch) xs c.loop.at i [] [] c.skip.ensures.passes (stays (g.W.Watch.has_seen c.loop.watch))))
          (sees-of (g.W.Watch.has_seen c.loop.watch) (g.W.Watch.has_seen c.mark-in-Some.new.self) xs i (i + 1) _ [] (passes-leave xs i (slice_index xs i) c.in-Some.then s (g.H.Containers.list c.leave.new.holders) (omega (arith, b, room)) refl c.in-Some.ensures.some)
          (by_mark (g.W.Watch.has_seen c.loop.watch) (g.W.Watch.has_seen c.mark-in-Some.new.self) c.mark_at-in-Some.result _ [] (c.mark_at-in-Some.ensures ∙ ap (λ (kind : MarkKind). mark_of kind i) c.leave_kind-in-Some.ensures.value) c.mark-in-Some.ensures.seen));
      turn = c.mark-in-Some.ensures.turn;
    }

pub loop-preserved : goal.loop-preserved
loop-preserved g c =
    let v = c.loop.invariant in
    let low = v.low in
    let xs = c.args.text.now in
    let a = c.args.at.now in
    let i = c.skip.new.at in
    let s = g.H.Containers.list c.loop.holders in
    let t = g.H.Containers.list c.leave.new.holders in
    let b = c.requires.bounds in
    let k = c.skip.ensures.bounds in
    let room = c.if-not-skip.ensures.room in
    let leaves : Leaves (slice_index xs i) expected.After s t = subst (λ (f : Expect). Leaves (slice_index xs i) f s t) c.in-Some-After.field-0-is c.in-Some-After.ensures.some in
    record {
      low = omega (arith, low, k);
      high = omega (arith, room);
      reads = λ depth.
          reads-then depth xs a i (i + 1) (went expected.After (g.H.Containers.list c.args.holders.now)) (went expected.After s) (went expected.After t)
          (up_to depth xs a c.loop.at i (g.H.Containers.list c.args.holders.now) s (v.reads depth) c.skip.ensures.passes)
          (reads-leave depth xs i (slice_index xs i) expected.After s t (omega (arith, b, room)) refl leaves);
      seen =
          sees-on (g.W.Watch.has_seen c.args.watch.now) (g.W.Watch.has_seen c.loop.watch) (g.W.Watch.has_seen c.mark.new.self) xs a i (i + 1) (omega (arith, low, k)) (omega arith) (omega (arith, b, room))
          (up_to 0 xs a c.loop.at i (g.H.Containers.list c.args.holders.now) s (v.reads 0) c.skip.ensures.passes).exit
          (sees-read (g.W.Watch.has_seen c.args.watch.now) (g.W.Watch.has_seen c.loop.watch) (g.W.Watch.has_seen c.loop.watch) 0 xs a c.loop.at i _ _ (v.reads 0) k.0 v.seen
          (sees-of (g.W.Watch.has_seen c.loop.watch) (g.W.Watch.has_seen c.loop.watch) xs c.loop.at i [] [] c.skip.ensures.passes (stays (g.W.Watch.has_seen c.loop.watch))))
          (sees-of (g.W.Watch.has_seen c.loop.watch) (g.W.Watch.has_seen c.mark.new.self) xs i (i + 1) _ [] (passes-leave xs i (slice_index xs i) expected.After s (g.H.Containers.list c.leave.new.holders) (omega (arith, b, room)) refl leaves)
          (by_mark (g.W.Watch.has_seen c.loop.watch) (g.W.Watch.has_seen c.mark.new.self) c.mark_at.result _ [] (c.mark_at.ensures ∙ ap (λ (kind : MarkKind). mark_of kind i) c.leave_kind.ensures.value) c.mark.ensures.seen));
      turn = c.mark.ensures.turn;
    }

pub returns-then-not-skip-clause-reads : goal.returns-then-not-skip-clause-reads
returns-then-not-skip-clause-reads g c = λ depth.
    up_to depth c.args.text.now c.args.at.now c.loop.at c.skip.new.at (g.H.Containers.list c.args.holders.now) (g.H.Containers.list c.loop.holders) (c.loop.invariant.reads depth) c.skip.ensures.passes

pub returns-in-None-clause-reads : goal.returns-in-None-clause-reads
returns-in-None-clause-reads g c = λ depth.
    subst (λ (t : List Holder). Reads depth c.args.text.now c.args.at.now c.skip.new.at (went expected.After (g.H.Containers.list c.args.holders.now)) (went expected.After t)) (sym (c.in-None.ensures.none refl))
    (up_to depth c.args.text.now c.args.at.now c.loop.at c.skip.new.at (g.H.Containers.list c.args.holders.now) (g.H.Containers.list c.loop.holders) (c.loop.invariant.reads depth) c.skip.ensures.passes)

pub returns-then-not-skip-clause-seen : goal.returns-then-not-skip-clause-seen
returns-then-not-skip-clause-seen g c =
    let v = c.loop.invariant in
    sees-read (g.W.Watch.has_seen c.args.watch.now) (g.W.Watch.has_seen c.loop.watch) (g.W.Watch.has_seen c.loop.watch) 0 c.args.text.now c.args.at.now c.loop.at c.skip.new.at _ _ (v.reads 0) c.skip.ensures.bounds.0 v.seen
    (sees-of (g.W.Watch.has_seen c.loop.watch) (g.W.Watch.has_seen c.loop.watch) c.args.text.now c.loop.at c.skip.new.at [] [] c.skip.ensures.passes (stays (g.W.Watch.has_seen c.loop.watch)))

pub returns-in-None-clause-seen : goal.returns-in-None-clause-seen
returns-in-None-clause-seen g c =
    let v = c.loop.invariant in
    sees-read (g.W.Watch.has_seen c.args.watch.now) (g.W.Watch.has_seen c.loop.watch) (g.W.Watch.has_seen c.loop.watch) 0 c.args.text.now c.args.at.now c.loop.at c.skip.new.at _ _ (v.reads 0) c.skip.ensures.bounds.0 v.seen
    (sees-of (g.W.Watch.has_seen c.loop.watch) (g.W.Watch.has_seen c.loop.watch) c.args.text.now c.loop.at c.skip.new.at [] [] c.skip.ensures.passes (stays (g.W.Watch.has_seen c.loop.watch)))
