use Rattle.std.proofs.Common.{◌≡◌, ◌≤◌, ◌<◌, ◌∙◌, ap, sym, arith, refl}
use Rattle.jx_each.specs.inside.Deep.{height_at}
use Rattle.std.specs.Simd.Lanes.{chunk}
use Rattle.jx_each.proofs.Deepening.{before_on, open_on, open_over}
use Rattle.jx_each.proofs.elements.deep_height.Goals as goal

pub loop-at-init : goal.loop-at-init
loop-at-init c = record { within = omega arith; tall = c.requires.high; most = omega arith; before = λ k lt. absurd (omega (arith, lt)); here = refl }

pub returns-then-stop-eq-BLOCK-clause-deep : goal.returns-then-stop-eq-BLOCK-clause-deep
returns-then-stop-eq-BLOCK-clause-deep c =
    let i = c.loop-at.invariant in
    let n = c.next_set-stop.ensures in
    let stop = c.next_set-stop.result in
    let most : stop ≤ 64 = n.bounds.1 in
    let is : stop ≡ 64 = c.if-stop-eq-BLOCK.true in
    record {
      whole = c.requires.whole;
      before = λ k lt. before_on c.args.bytes.now c.args.view.base c.args.view.inside c.args.view.words c.requires.room c.requires.told c.args.height c.loop-at.at stop c.loop-at.high n.bounds.0 most i.here i.tall n.none i.before k (omega (arith, lt, is));
      behind = open_on c.args.bytes.now c.args.view.base c.args.view.inside c.args.view.words c.requires.room c.requires.told c.args.height c.loop-at.at stop c.loop-at.high n.bounds.0 most i.here i.tall n.none 64 i.within (omega (arith, is));
    }

pub returns-clause-deep : goal.returns-clause-deep
returns-clause-deep c =
    let i = c.loop-at.invariant in
    let within : c.loop-at.at ≤ 64 = i.within in
    let is : c.loop-at.at ≡ 64 = omega (arith, within, c.loop-at-test.false) in
    record {
      whole = c.requires.whole;
      before = λ k lt. i.before k (omega (arith, lt, is));
      behind = ap (height_at (chunk c.args.view.base 64 c.args.bytes.now) c.args.view.inside c.args.view.words c.args.height) (sym is) ∙ i.here;
    }

pub loop-at-preserved : goal.loop-at-preserved
loop-at-preserved c =
    let i = c.loop-at.invariant in
    let n = c.next_set-stop.ensures in
    let stop = c.next_set-stop.result in
    let most : stop ≤ 64 = n.bounds.1 in
    let low : c.loop-at.at ≤ stop = n.bounds.0 in
    let lt : stop < 64 = omega (arith, most, c.if-stop-eq-BLOCK.false) in
    let next = c.height_next-high.ensures in
    let out = (c.requires.told.brackets.outside stop lt (n.set lt)).0 in
    record {
      within = omega (arith, lt);
      tall = omega (arith, c.if-high-le1.false);
      most = omega (arith, i.most, low, next.most);
      before = λ k l. before_on c.args.bytes.now c.args.view.base c.args.view.inside c.args.view.words c.requires.room c.requires.told c.args.height c.loop-at.at stop c.loop-at.high low most i.here i.tall n.none i.before k (omega (arith, l));
      here = open_over c.args.bytes.now c.args.view.base c.args.view.inside c.args.view.words c.requires.room c.requires.told c.args.height c.loop-at.at stop c.loop-at.high low most i.here i.tall n.none lt out ∙ sym next.value;
    }
