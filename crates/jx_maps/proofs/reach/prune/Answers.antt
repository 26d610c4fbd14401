use Rattle.std.proofs.Common.{◌≡◌, set, ◌+◌, ◌-◌, ◌<◌, rules, sym, subst, ap, ◌∙◌, arith, length}
use Rattle.jx_maps.specs.declared.link.Link.{Link}
use Rattle.jx_maps.specs.declared.link.Link.TheVariants.{Ahead}
use Rattle.jx_maps.specs.Follow.{SegmentValue, IsIn}
use Rattle.jx_maps.specs.inside.Pruned.{emptied}
use Rattle.jx_maps.proofs.Pruning.{Pruning-start, Pruning-same, Pruning-kept, Pruning-emptied, Pruning-in, Pruning-done, reached_behind, behind-none}
use Rattle.jx_maps.proofs.reach.prune.Goals as goal
use Rattle.jx_maps.proofs.reach.prune.Goals.{In-Ahead, then-not-reached-i, else-not-reached-i+in-Ahead, else-not-reached-i+in_default}

pub loop-i-init : goal.loop-i-init
loop-i-init c = Pruning-start c.args.reached.now c.args.segments.now c.requires.many

ahead : (c : In-Ahead) → c.loop-i.i + 1 + c.in-Ahead.skip < length c.args.segments.now
ahead c =
    let ps0 = c.args.segments.now in
    let i = c.loop-i.i in
    let p = c.index-segments-i-else-not-reached-i.result in
    let is = c.index-segments-i-else-not-reached-i.is in
    let test = c.loop-i-test.true in
    let link : p.next ≡ Ahead c.in-Ahead.skip = ap (λ (x : SegmentValue). x.next) is ∙ sym c.next.ensures ∙ c.in-Ahead.is in
    let within : c.in-Ahead.skip < length ps0 - (i + 1) =
    subst (IsIn (length ps0 - (i + 1))) link (Pruning-in c.args.reached.now c.loop-i.reached ps0 c.loop-i.segments i p c.requires.inside test c.loop-i.invariant is) in
    omega (arith, within, test)

pub overflow_add-reached-in-Ahead : goal.overflow_add-reached-in-Ahead
overflow_add-reached-in-Ahead c = let lt = ahead c in search rules

pub bounds-reached-i-in-Ahead : goal.bounds-reached-i-in-Ahead
bounds-reached-i-in-Ahead c = let lt = ahead c in let flags = c.loop-i.invariant.flags in omega (arith, lt, flags)

pub loop-i-preserved : goal.loop-i-preserved
loop-i-preserved c =
    let rs0 = c.args.reached.now in
    let ps0 = c.args.segments.now in
    let rs = c.loop-i.reached in
    let ps = c.loop-i.segments in
    let i = c.loop-i.i in
    let v = c.loop-i.invariant in
    let test = c.loop-i-test.true in
    elim c.if-not-reached-i.branch [
      | then-not-reached-i w ↦ (
          let p = w.index-segments-i.result in
          let is = w.index-segments-i.is in
          let q = w.empty.new.self in
          Pruning-same rs0 rs c.if-not-reached-i.reached ps0 (set ps i q) c.if-not-reached-i.segments (i + 1) w.reached-is w.segments-is
          (Pruning-emptied rs0 rs ps0 ps i p q test v is w.if-not-reached-i.true (w.empty.ensures ∙ ap emptied (sym is))))
      | else-not-reached-i+in-Ahead w ↦ (
          let p = w.index-segments-i-else-not-reached-i.result in
          let is = w.index-segments-i-else-not-reached-i.is in
          let link : p.next ≡ Ahead w.in-Ahead.skip = ap (λ (x : SegmentValue). x.next) is ∙ sym w.next.ensures ∙ w.in-Ahead.is in
          Pruning-same rs0 (reached_behind i p.next rs) c.if-not-reached-i.reached ps0 ps c.if-not-reached-i.segments (i + 1)
          (w.reached-is ∙ ap (λ (g : Link). reached_behind i g rs) (sym link)) w.segments-is
          (Pruning-kept rs0 rs ps0 ps i p test v is w.if-not-reached-i.false))
      | else-not-reached-i+in_default w ↦ (
          let p = w.index-segments-i-else-not-reached-i.result in
          let is = w.index-segments-i-else-not-reached-i.is in
          let next : w.next.result ≡ p.next = w.next.ensures ∙ ap (λ (x : SegmentValue). x.next) (sym is) in
          Pruning-same rs0 (reached_behind i p.next rs) c.if-not-reached-i.reached ps0 ps c.if-not-reached-i.segments (i + 1)
          (w.reached-is ∙ sym (behind-none i p.next rs (λ k e. w.in_default.not-Ahead k (next ∙ e)))) w.segments-is
          (Pruning-kept rs0 rs ps0 ps i p test v is w.if-not-reached-i.false))
    ]

pub returns : goal.returns
returns c = Pruning-done c.args.reached.now c.loop-i.reached c.args.segments.now c.loop-i.segments c.loop-i.i (omega arith) c.loop-i.invariant
