use Rattle.std.proofs.Common.{◌≡◌, ◌≤◌, ap, arith, refl, subst, sym, true}
use Rattle.jx_each.specs.declared.stand.LineStand.{LineStand}
use Rattle.jx_each.specs.Machine.{step}
use Rattle.jx_each.specs.inside.Paths.{aim_of, count_in}
use Rattle.jx_each.specs.inside.Stretches.{spot_in_array}
use Rattle.jx_each.proofs.Stretching.{made_on, none_passed, run_byte}
use Rattle.jx_each.proofs.Walked.{blocks_on}
use Rattle.jx_each.proofs.making.make_all.Goals as goal

pub loop-at-preserved-then-is_border : goal.loop-at-preserved-then-is_border
loop-at-preserved-then-is_border c =
    let i = c.loop-at.invariant in
    let deep = c.in_ok-deep.ensures in
    let found = c.stretch_from-found.ensures in
    let s = c.loop-at.stand in
    let t = c.moved-stand.result in
    let u = c.moved-stand-in-loop-at.result in
    let border = c.is_border.ensures c.if-is_border.true in
    let from : c.loop-at.at ≤ c.in_ok-deep.deep.end = deep.bounds.0 in
    let low : c.in_ok-deep.deep.end ≤ c.stretch_from-found.result.end = found.bounds.0 in
    let next : c.in_ok-stand.stand ≡ spot_in_array true = c.in_ok-stand.ensures.next in
    let height : c.in_ok-stand.stand.height ≡ 1 = ap (λ (x : LineStand). x.height) next in
    let count : count_in c.in_ok-stand.stand.stage ≡ 0 = ap (λ (x : LineStand). count_in x.stage) next in
    record {
      within = omega (arith, c.if-found-bytes.true);
      height = omega (arith, height);
      count = omega (arith, count);
      made =
          run_byte (aim_of c.args.target.now) u c.in_ok-stand.stand c.make_blocks.new.lines.items c.push_stretch.new.part.items c.end_element.new.lines.items c.end_element.new.part.items c.args.bytes.now c.stretch_from-found.result.end 0x2c _
          c.if-found-bytes.true (sym border.1)
          (subst (λ (x : LineStand). record { stand = c.in_ok-stand.stand; lines = c.end_element.new.lines.items; part = c.end_element.new.part.items } ≡ step (aim_of c.args.target.now) (record { stand = x; lines = c.make_blocks.new.lines.items; part = c.push_stretch.new.part.items }) 0x2c) (sym border.0)
          (c.in_ok-stand.ensures.made (aim_of c.args.target.now) u.takes))
          (made_on (aim_of c.args.target.now) t u c.stretch_from-found.result.place c.stretch_from-found.result.height c.make_blocks.new.lines.items c.make_blocks.new.part.items c.push_stretch.new.part.items c.args.bytes.now
          c.in_ok-deep.deep.end c.stretch_from-found.result.end c.stretch_from-found.result.end _ c.moved-stand-in-loop-at.ensures low (omega arith) found.stretch c.in_ok-push_stretch.ensures
          (none_passed c.stretch_from-found.result.place c.args.bytes.now c.stretch_from-found.result.end)
          (blocks_on (aim_of c.args.target.now) s t c.in_ok-deep.deep.place c.in_ok-deep.deep.height c.loop-at.lines.items c.loop-at.part.items c.make_blocks.new.lines.items c.make_blocks.new.part.items c.args.bytes.now
          c.loop-at.at c.in_ok-deep.deep.end _ c.moved-stand.ensures from (deep.made (aim_of c.args.target.now)) i.made));
    }

pub loop-at-preserved : goal.loop-at-preserved
loop-at-preserved c =
    let i = c.loop-at.invariant in
    let deep = c.in_ok-deep.ensures in
    let found = c.stretch_from-found.ensures in
    let past = c.blanks_from-at.ensures in
    let s = c.loop-at.stand in
    let t = c.moved-stand.result in
    let u = c.moved-stand-in-loop-at.result in
    let from : c.loop-at.at ≤ c.in_ok-deep.deep.end = deep.bounds.0 in
    let low : c.in_ok-deep.deep.end ≤ c.stretch_from-found.result.end = found.bounds.0 in
    let high : c.stretch_from-found.result.end ≤ c.blanks_from-at.result = past.bounds.0 in
    let height : t.height ≡ c.in_ok-deep.deep.height = ap (λ (x : LineStand). x.height) c.moved-stand.ensures in
    let height_behind : u.height ≡ c.stretch_from-found.result.height = ap (λ (x : LineStand). x.height) c.moved-stand-in-loop-at.ensures in
    let count : count_in t.stage ≡ count_in s.stage = ap (λ (x : LineStand). count_in x.stage) c.moved-stand.ensures in
    let count_behind : count_in u.stage ≡ count_in t.stage = ap (λ (x : LineStand). count_in x.stage) c.moved-stand-in-loop-at.ensures in
    record {
      within = past.bounds.1;
      height = omega (arith, from, low, high, height, height_behind, deep.high, found.high, i.height);
      count = omega (arith, from, low, high, count, count_behind, i.count);
      made =
          made_on (aim_of c.args.target.now) t u c.stretch_from-found.result.place c.stretch_from-found.result.height c.make_blocks.new.lines.items c.make_blocks.new.part.items c.push_stretch.new.part.items c.args.bytes.now
          c.in_ok-deep.deep.end c.stretch_from-found.result.end c.blanks_from-at.result _ c.moved-stand-in-loop-at.ensures low high found.stretch c.in_ok-push_stretch.ensures past.passed
          (blocks_on (aim_of c.args.target.now) s t c.in_ok-deep.deep.place c.in_ok-deep.deep.height c.loop-at.lines.items c.loop-at.part.items c.make_blocks.new.lines.items c.make_blocks.new.part.items c.args.bytes.now
          c.loop-at.at c.in_ok-deep.deep.end _ c.moved-stand.ensures from (deep.made (aim_of c.args.target.now)) i.made);
    }

pub loop-at-preserved-then-at-bytes : goal.loop-at-preserved-then-at-bytes
loop-at-preserved-then-at-bytes c =
    let i = c.loop-at.invariant in
    let deep = c.in_ok-deep.ensures in
    let found = c.stretch_from-found.ensures in
    let past = c.blanks_from-at.ensures in
    let s = c.loop-at.stand in
    let t = c.moved-stand.result in
    let u = c.moved-stand-in-loop-at.result in
    let from : c.loop-at.at ≤ c.in_ok-deep.deep.end = deep.bounds.0 in
    let low : c.in_ok-deep.deep.end ≤ c.stretch_from-found.result.end = found.bounds.0 in
    let high : c.stretch_from-found.result.end ≤ c.blanks_from-at.result = past.bounds.0 in
    let height : t.height ≡ c.in_ok-deep.deep.height = ap (λ (x : LineStand). x.height) c.moved-stand.ensures in
    let height_behind : u.height ≡ c.stretch_from-found.result.height = ap (λ (x : LineStand). x.height) c.moved-stand-in-loop-at.ensures in
    let count : count_in t.stage ≡ count_in s.stage = ap (λ (x : LineStand). count_in x.stage) c.moved-stand.ensures in
    let count_behind : count_in u.stage ≡ count_in t.stage = ap (λ (x : LineStand). count_in x.stage) c.moved-stand-in-loop-at.ensures in
    record {
      within = omega (arith, c.if-at-bytes.true);
      height = omega (arith, from, low, high, height, height_behind, deep.high, found.high, i.height, c.in_ok-stand-2.ensures.height);
      count = omega (arith, from, low, high, count, count_behind, i.count, c.in_ok-stand-2.ensures.count);
      made =
          run_byte (aim_of c.args.target.now) u c.in_ok-stand-2.stand c.make_blocks.new.lines.items c.push_stretch.new.part.items c.make.new.lines.items c.make.new.part.items c.args.bytes.now c.blanks_from-at.result _ _
          c.if-at-bytes.true refl c.in_ok-stand-2.ensures.made
          (made_on (aim_of c.args.target.now) t u c.stretch_from-found.result.place c.stretch_from-found.result.height c.make_blocks.new.lines.items c.make_blocks.new.part.items c.push_stretch.new.part.items c.args.bytes.now
          c.in_ok-deep.deep.end c.stretch_from-found.result.end c.blanks_from-at.result _ c.moved-stand-in-loop-at.ensures low high found.stretch c.in_ok-push_stretch.ensures past.passed
          (blocks_on (aim_of c.args.target.now) s t c.in_ok-deep.deep.place c.in_ok-deep.deep.height c.loop-at.lines.items c.loop-at.part.items c.make_blocks.new.lines.items c.make_blocks.new.part.items c.args.bytes.now
          c.loop-at.at c.in_ok-deep.deep.end _ c.moved-stand.ensures from (deep.made (aim_of c.args.target.now)) i.made));
    }
