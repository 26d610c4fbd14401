use Rattle.std.proofs.Common.{◌≡◌, ℕ, ◌+◌, ◌-◌, ◌≤◌, ◌++◌, arith, sym, subst, refl, ◌∙◌, drop, length, length-append, length-drop, take}
use Rattle.std.specs.Prelude.{slice_range}
use Rattle.jx_each.specs.inside.Blocks.{place_at}
use Rattle.jx_each.specs.inside.Stretches.{IsLed}
use Rattle.jx_each.proofs.Ending.{led_gap, made_at, put_copied, put_led, put_long}
use Rattle.jx_each.proofs.Leading.{led_none_at, led_slice}
use Rattle.jx_each.proofs.elements.squeeze.Goals as goal

pub loop-at-init : goal.loop-at-init
loop-at-init c =
    let r = c.requires in
    let start : c.args.view.base + 0 ≡ c.args.view.base = omega arith in
    record {
      within = omega arith;
      low = omega arith;
      short = omega arith;
      same = refl;
      begin = r.begin;
      high = r.high;
      most = omega arith;
      led = subst (λ (j : ℕ). IsLed (place_at c.args.view.inside c.args.view.words 0) c.args.nest (take c.args.start c.args.made.now) (slice_range c.args.bytes.now c.args.view.base j) (place_at c.args.view.inside c.args.view.words 0) c.args.nest (take c.args.start c.args.made.now)) (sym start)
          (led_none_at _ c.args.nest _ c.args.bytes.now c.args.view.base);
    }

pub end_elements-reach-requires-clause-long : goal.end_elements-reach-requires-clause-long
end_elements-reach-requires-clause-long c =
    let i = c.loop-at.invariant in
    let len : c.args.view.words.len ≤ 64 = c.requires.told.bounds.1 in
    let to : c.next_gap-to.result ≤ c.args.view.words.len = c.next_gap-to.ensures.bounds.1 in
    let room : c.loop-at.len + 64 ≤ length c.loop-at.made = omega (arith, i.short, i.within, i.same, c.requires.space, len) in
    let inside = c.requires.room in
    (put_copied c.loop-at.made c.put_block.new.made c.args.bytes.now c.loop-at.len c.args.view.base c.loop-at.at c.next_gap-to.result (omega (arith, inside)) (c.next_gap-to.ensures.bounds.0, omega (arith, len, to)) room c.put_block.ensures.copied).0.long

pub end_elements-reach-requires-clause-copied : goal.end_elements-reach-requires-clause-copied
end_elements-reach-requires-clause-copied c =
    let i = c.loop-at.invariant in
    let len : c.args.view.words.len ≤ 64 = c.requires.told.bounds.1 in
    let to : c.next_gap-to.result ≤ c.args.view.words.len = c.next_gap-to.ensures.bounds.1 in
    let room : c.loop-at.len + 64 ≤ length c.loop-at.made = omega (arith, i.short, i.within, i.same, c.requires.space, len) in
    let inside = c.requires.room in
    (put_copied c.loop-at.made c.put_block.new.made c.args.bytes.now c.loop-at.len c.args.view.base c.loop-at.at c.next_gap-to.result (omega (arith, inside)) (c.next_gap-to.ensures.bounds.0, omega (arith, len, to)) room c.put_block.ensures.copied).0.rest

pub returns-then-reach-to-clause-led : goal.returns-then-reach-to-clause-led
returns-then-reach-to-clause-led c =
    let i = c.loop-at.invariant in
    let xs = c.args.bytes.now in
    let base = c.args.view.base in
    let at = c.loop-at.at in
    let to = c.next_gap-to.result in
    let r = c.end_elements-reach.ensures in
    let k = c.end_elements-reach.result.at in
    let low : at ≤ k = r.bounds.0 in
    let len : c.args.view.words.len ≤ 64 = c.requires.told.bounds.1 in
    let most : to ≤ c.args.view.words.len = c.next_gap-to.ensures.bounds.1 in
    let room : c.loop-at.len + 64 ≤ length c.loop-at.made = omega (arith, i.short, i.within, i.same, c.requires.space, len) in
    let inside = c.requires.room in
    led_slice xs base (base + at) (base + k) (omega arith) (omega (arith, low)) i.led
    (put_led c.loop-at.made c.put_block.new.made xs c.loop-at.len base at to (omega (arith, inside)) (c.next_gap-to.ensures.bounds.0, omega (arith, len, most)) room c.put_block.ensures.copied
    c.end_elements-reach.new.made _ _ k _ _ c.loop-at.nest c.end_elements-reach.result.nest r.length r.led)

pub loop-at-preserved : goal.loop-at-preserved
loop-at-preserved c =
    let i = c.loop-at.invariant in
    let xs = c.args.bytes.now in
    let ys = c.put_block.new.made in
    let ws = c.end_elements-reach.new.made in
    let base = c.args.view.base in
    let at = c.loop-at.at in
    let to = c.next_gap-to.result in
    let r = c.end_elements-reach.ensures in
    let p = c.past_gap-at.ensures in
    let past = c.past_gap-at.result in
    let k = c.end_elements-reach.result.at in
    let low : at ≤ k = r.bounds.0 in
    let high : k ≤ to = r.bounds.1 in
    let same : k ≡ to = omega (arith, high, c.if-reach-to.false) in
    let on : to ≤ past = p.bounds.0 in
    let all : past ≤ c.args.view.words.len = p.bounds.1 in
    let len : c.args.view.words.len ≤ 64 = c.requires.told.bounds.1 in
    let most : to ≤ c.args.view.words.len = c.next_gap-to.ensures.bounds.1 in
    let room : c.loop-at.len + 64 ≤ length c.loop-at.made = omega (arith, i.short, i.within, i.same, c.requires.space, len) in
    let inside = c.requires.room in
    let order : (at ≤ to) × (to ≤ 64) = (c.next_gap-to.ensures.bounds.0, omega (arith, len, most)) in
    let within : base + 64 ≤ length xs = omega (arith, inside) in
    let end : ℕ = c.loop-at.len + (to - at) in
    let long : length ws ≡ end = r.length ∙ put_long c.loop-at.made ys xs c.loop-at.len base at to within order room c.put_block.ensures.copied in
    let kept : length ys ≡ length c.loop-at.made = c.put_block.ensures.length in
    let tail : length (drop end ys) ≡ length ys - end = length-drop end ys in
    let both : length (ws ++ drop end ys) ≡ length ws + length (drop end ys) = length-append ws (drop end ys) in
    let begin : c.end_elements-reach.result.nest.begin ≤ length ws - (to - k) = r.begin in
    let tall : c.end_elements-reach.result.nest.height ≤ c.loop-at.nest.height + (k - at) = r.high.1 in
    let from : at ≤ to = order.0 in
    let whole : end - (to - to) ≡ end = omega arith in
    let here : IsLed (place_at c.args.view.inside c.args.view.words at) c.loop-at.nest (take c.loop-at.len c.loop-at.made) (slice_range xs (base + at) (base + to)) (place_at c.args.view.inside c.args.view.words to) c.end_elements-reach.result.nest (take end (ws ++ drop end ys)) =
    subst (λ (j : ℕ). IsLed (place_at c.args.view.inside c.args.view.words at) c.loop-at.nest (take c.loop-at.len c.loop-at.made) (slice_range xs (base + at) (base + to)) (place_at c.args.view.inside c.args.view.words to) c.end_elements-reach.result.nest (take j (ws ++ drop end ys))) whole
    (put_led c.loop-at.made ys xs c.loop-at.len base at to within order room c.put_block.ensures.copied ws (drop end ys) _ to _ _ c.loop-at.nest c.end_elements-reach.result.nest r.length
    (subst (λ (j : ℕ). IsLed (place_at c.args.view.inside c.args.view.words at) c.loop-at.nest (made_at (take end ys) at to) (slice_range xs (base + at) (base + j)) (place_at c.args.view.inside c.args.view.words j) c.end_elements-reach.result.nest (take (length ws - (to - j)) ws)) same r.led)) in
    record {
      within = all;
      low = omega (arith, i.low);
      short = omega (arith, i.short, on, from);
      same = omega (arith, both, tail, long, kept, i.same, room, order.1, from);
      begin = omega (arith, begin, long);
      high = r.high.0;
      most = omega (arith, tall, i.most, low, on, same);
      led =
          led_slice xs base (base + to) (base + past) (omega arith) (omega (arith, on))
          (led_slice xs base (base + at) (base + to) (omega arith) (omega (arith, from)) i.led here)
          (led_gap xs base c.args.view.inside c.args.view.words within c.requires.told c.end_elements-reach.result.nest (take end (ws ++ drop end ys)) to past on all p.all);
    }
