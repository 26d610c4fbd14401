use Rattle.std.proofs.Common.{◌+◌, ◌≤◌, arith}
use Rattle.jx_each.proofs.Leading.{led_block_past, led_none_at}
use Rattle.jx_each.proofs.elements.walk_blocks.Goals as goal

pub loop-front-init : goal.loop-front-init
loop-front-init c =
    let r = c.requires in
    record {
      low = omega arith;
      within = r.within;
      begin = r.begin;
      high = r.high;
      most = omega arith;
      led = led_none_at c.args.from.place c.args.from.nest c.args.lines.now.items c.args.bytes.now c.args.from.end;
    }

pub past_blanks-end-requires : goal.past_blanks-end-requires
past_blanks-end-requires c =
    let few : c.in_ok-reach.reach.at ≤ c.in-Some-words_of.words.len = c.in_ok-reach.ensures.bounds in
    let len : c.in-Some-words_of.words.len ≤ 64 = c.in-Some-words_of.ensures.bounds.1 in
    omega (arith, few, len, c.loop-front-test.true)

pub returns-then-reach-words-clause-led : goal.returns-then-reach-words-clause-led
returns-then-reach-words-clause-led c =
    let i = c.loop-front.invariant in
    let p = c.past_blanks-end.ensures in
    led_block_past c.args.bytes.now c.args.from.end c.loop-front.front.end c.in_ok-reach.reach.at c.past_blanks-end.result i.low i.led c.in-Some.ensures c.place_behind-place.ensures c.in_ok-reach.ensures.led p.bounds.0 p.passed

pub loop-front-preserved : goal.loop-front-preserved
loop-front-preserved c =
    let i = c.loop-front.invariant in
    let r = c.in_ok-reach.ensures in
    let p = c.past_blanks-end.ensures in
    let end = c.loop-front.front.end in
    let at = c.in_ok-reach.reach.at in
    let on : end + at ≤ c.past_blanks-end.result = p.bounds.0 in
    let most = r.high.1 in
    record {
      low = omega (arith, i.low, on);
      within = p.bounds.1;
      begin = r.begin;
      high = r.high.0;
      most = omega (arith, most, i.most, i.low, on);
      led = led_block_past c.args.bytes.now c.args.from.end end at c.past_blanks-end.result i.low i.led c.in-Some.ensures c.place_behind-place.ensures r.led on p.passed;
    }
