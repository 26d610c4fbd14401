use Rattle.std.proofs.Common.{◌≡◌, ◌+◌, ◌-◌, ◌≤◌, ◌∙◌, length, take, arith, refl}
use Rattle.jx_each.proofs.Deepening.{packed_all, packed_none, packed_on, packed_past}
use Rattle.jx_each.proofs.elements.pack.Goals as goal

pub loop-at-init : goal.loop-at-init
loop-at-init c =
    let a = c.args in
    record {
      within = omega arith;
      low = omega arith;
      short = omega arith;
      same = refl;
      led = packed_none a.bytes.now a.view.base a.view.inside a.view.words (omega (arith, c.requires.room)) c.requires.told a.nest.height a.high c.requires.deep a.nest refl (take a.start a.made.now);
    }

pub returns-clause-led : goal.returns-clause-led
returns-clause-led c =
    let a = c.args in
    let i = c.loop-at.invariant in
    let is : c.loop-at.at ≡ 64 = omega (arith, i.within, c.loop-at-test.false) in
    packed_all a.bytes.now a.view.base a.view.inside a.view.words (omega (arith, c.requires.room)) c.requires.told a.nest.height a.high c.requires.deep a.nest refl (take a.start a.made.now) (take c.loop-at.len c.loop-at.made) c.loop-at.at is i.led

pub loop-at-preserved : goal.loop-at-preserved
loop-at-preserved c =
    let a = c.args in
    let i = c.loop-at.invariant in
    let g = c.next_set-to.ensures in
    let p = c.past_set-at.ensures in
    let at = c.loop-at.at in
    let to = c.next_set-to.result in
    let past = c.past_set-at.result in
    let from : at ≤ to = g.bounds.0 in
    let most : to ≤ 64 = g.bounds.1 in
    let on : to ≤ past = p.bounds.0 in
    let all : past ≤ 64 = p.bounds.1 in
    let inside = c.requires.room in
    let room : a.view.base + 64 ≤ length a.bytes.now = omega (arith, inside) in
    let fits : c.loop-at.len + 64 ≤ length c.loop-at.made = omega (arith, i.short, i.within, i.same, c.requires.space) in
    let begins : a.nest.begin ≤ c.loop-at.len = omega (arith, i.low, c.requires.begin) in
    record {
      within = all;
      low = omega (arith, i.low);
      short = omega (arith, i.short, on, from);
      same = c.put_block.ensures.length ∙ i.same;
      led =
          packed_past a.bytes.now a.view.base a.view.inside a.view.words room c.requires.told a.nest.height a.high c.requires.deep a.nest refl (take a.start a.made.now)
          (take (c.loop-at.len + (to - at)) c.put_block.new.made) to past on all p.all
          (packed_on a.bytes.now a.view.base a.view.inside a.view.words room c.requires.told a.nest.height a.high c.requires.deep a.nest refl (take a.start a.made.now)
          c.loop-at.made c.put_block.new.made c.loop-at.len at to begins fits (from, most) g.none c.put_block.ensures.copied i.led);
    }
