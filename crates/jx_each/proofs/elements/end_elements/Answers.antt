use Rattle.std.proofs.Common.{◌≡◌, ℕ, ◌+◌, ◌-◌, ◌<◌, ◌≤◌, List, length, get_or, drop, arith, refl, sym, ap, subst, ◌∙◌}
use Rattle.std.specs.Prelude.{slice_range}
use Rattle.jx_each.specs.inside.Blocks.{place_at}
use Rattle.jx_each.specs.inside.Stretches.{IsLed}
use Rattle.jx_each.proofs.Ending.{Lies, led_stop, lies_byte, lies_led, lies_next, lies_on, made_at}
use Rattle.jx_each.proofs.Leading.{led_none_at, led_slice}
use Rattle.jx_each.proofs.Walking.{still_by, stop_by, walk_quiet}
use Rattle.jx_each.proofs.elements.end_elements.Goals as goal

pub loop-at-init : goal.loop-at-init
loop-at-init c =
    let r = c.requires in
    record {
      low = omega arith;
      within = r.order.0;
      same = refl;
      lies = record { long = r.long; rest = r.copied };
      begin = r.begin;
      high = r.high;
      most = omega arith;
      led = led_none_at _ c.args.nest _ c.args.bytes.now (c.args.view.base + c.args.from);
    }

pub returns-then-stop-to-clause-led : goal.returns-then-stop-to-clause-led
returns-then-stop-to-clause-led c =
    let i = c.loop-at.invariant in
    let n = c.next_set-stop.ensures in
    let s = c.stops_at.ensures in
    let xs = c.args.bytes.now in
    let base = c.args.view.base in
    let most : c.args.to ≤ 64 = c.requires.order.1 in
    led_slice xs (base + c.args.from) (base + c.loop-at.at) (base + c.args.to) (omega (arith, i.low)) (omega (arith, i.within)) i.led
    (lies_led c.loop-at.made xs base c.loop-at.at c.args.to i.lies _ _ c.loop-at.nest c.args.to i.within (omega arith) i.begin
    (walk_quiet xs base c.args.view.inside c.args.view.words c.requires.room c.requires.told c.loop-at.nest.height c.loop-at.at c.args.to i.within most
    (λ k low lt. still_by xs base c.args.view.inside c.args.view.words c.requires.room c.requires.told c.loop-at.nest.height c.stops_at.result s.brackets s.borders s.set k (omega (arith, lt, most))
    (n.none k low (omega (arith, lt, c.if-stop-to.true))) (c.requires.solid k (omega (arith, low, i.low)) lt))))

pub pass_stop-requires-clause-byte : goal.pass_stop-requires-clause-byte
pass_stop-requires-clause-byte c =
    let i = c.loop-at.invariant in
    let n = c.next_set-stop.ensures in
    let ys = c.loop-at.made in
    let stop = c.next_set-stop.result in
    let long : length c.args.made.now ≡ length ys = sym i.same in
    let lt : stop < c.args.to = omega (arith, c.if-stop-to.false) in
    let most : c.args.to ≤ 64 = c.requires.order.1 in
    let room : c.args.view.base + 64 ≤ length c.args.bytes.now = c.requires.room in
    ap (λ (m : ℕ). get_or ys (m - (c.args.to - stop)) 0) long
    ∙ lies_byte ys c.args.bytes.now c.args.view.base stop c.args.to (lies_on ys c.args.bytes.now c.args.view.base c.loop-at.at c.args.to i.lies stop n.bounds.0 (omega (arith, lt))) lt (omega (arith, most, room))

pub pass_stop-requires-clause-outside : goal.pass_stop-requires-clause-outside
pass_stop-requires-clause-outside c =
    let n = c.next_set-stop.ensures in
    let s = c.stops_at.ensures in
    let most : c.args.to ≤ 64 = c.requires.order.1 in
    let lt : c.next_set-stop.result < 64 = omega (arith, c.if-stop-to.false, most) in
    let b = stop_by c.args.bytes.now c.args.view.base c.args.view.inside c.args.view.words c.requires.room c.requires.told c.loop-at.nest.height c.stops_at.result s.brackets s.borders s.set c.next_set-stop.result lt (n.set lt) in
    (b.2, b.3)

pub returns-in_default-clause-led : goal.returns-in_default-clause-led
returns-in_default-clause-led c =
    let i = c.loop-at.invariant in
    let n = c.next_set-stop.ensures in
    let s = c.stops_at.ensures in
    let xs = c.args.bytes.now in
    let base = c.args.view.base in
    let stop = c.next_set-stop.result in
    let most : c.args.to ≤ 64 = c.requires.order.1 in
    let lt : stop < c.args.to = omega (arith, c.if-stop-to.false) in
    subst (λ (l : List ℕ). IsLed (place_at c.args.view.inside c.args.view.words c.args.from) c.args.nest (made_at c.args.made.now c.args.from c.args.to) (slice_range xs (base + c.args.from) (base + stop)) (place_at c.args.view.inside c.args.view.words stop) c.loop-at.nest (made_at l stop c.args.to))
    (sym (c.in_default.ensures.none refl))
    (led_slice xs (base + c.args.from) (base + c.loop-at.at) (base + stop) (omega (arith, i.low)) (omega (arith, n.bounds.0)) i.led
    (lies_led c.loop-at.made xs base c.loop-at.at c.args.to i.lies _ _ c.loop-at.nest stop n.bounds.0 (omega (arith, lt)) i.begin
    (walk_quiet xs base c.args.view.inside c.args.view.words c.requires.room c.requires.told c.loop-at.nest.height c.loop-at.at stop n.bounds.0 (omega (arith, lt, most))
    (λ k low l. still_by xs base c.args.view.inside c.args.view.words c.requires.room c.requires.told c.loop-at.nest.height c.stops_at.result s.brackets s.borders s.set k (omega (arith, l, lt, most))
    (n.none k low l) (c.requires.solid k (omega (arith, low, i.low)) (omega (arith, l, lt)))))))

pub loop-at-preserved : goal.loop-at-preserved
loop-at-preserved c =
    let i = c.loop-at.invariant in
    let n = c.next_set-stop.ensures in
    let s = c.stops_at.ensures in
    let xs = c.args.bytes.now in
    let ys = c.loop-at.made in
    let zs = c.pass_stop.new.made in
    let base = c.args.view.base in
    let stop = c.next_set-stop.result in
    let to = c.args.to in
    let most : to ≤ 64 = c.requires.order.1 in
    let lt : stop < to = omega (arith, c.if-stop-to.false) in
    let room : base + 64 ≤ length xs = c.requires.room in
    let low : c.loop-at.at ≤ stop = n.bounds.0 in
    let lies : Lies ys xs base stop to = lies_on ys xs base c.loop-at.at to i.lies stop low (omega (arith, lt)) in
    let long : to - stop ≤ length ys = lies.long in
    let len : length c.args.made.now ≡ length ys = sym i.same in
    let at : length c.args.made.now - (to - stop) ≡ length ys - (to - stop) = ap (λ (m : ℕ). m - (to - stop)) len in
    let same : length zs ≡ length ys = c.pass_stop.ensures.length in
    let next = c.in-Some.ensures in
    let begin : c.in-Some.next.begin ≤ length c.args.made.now - (to - stop) + 1 = next.begin in
    let high : c.in-Some.next.height ≤ c.loop-at.nest.height + 1 = next.high.1 in
    let b = stop_by xs base c.args.view.inside c.args.view.words room c.requires.told c.loop-at.nest.height c.stops_at.result s.brackets s.borders s.set stop (omega (arith, lt, most)) (n.set (omega (arith, lt, most))) in
    record {
      low = omega (arith, i.low, low);
      within = omega (arith, lt);
      same = same ∙ i.same;
      lies = lies_next ys xs base stop to lies zs lt same (subst (λ (m : ℕ). drop (m + 1) zs ≡ drop (m + 1) ys) at c.pass_stop.ensures.rest);
      begin = omega (arith, begin, at, same, long, lt);
      high = next.high.0;
      most = omega (arith, high, i.most, low, i.low);
      led =
          led_slice xs (base + c.args.from) (base + stop) (base + (stop + 1)) (omega (arith, i.low, low)) (omega arith)
          (led_slice xs (base + c.args.from) (base + c.loop-at.at) (base + stop) (omega (arith, i.low)) (omega (arith, low)) i.led
          (lies_led ys xs base c.loop-at.at to i.lies _ _ c.loop-at.nest stop low (omega (arith, lt)) i.begin
          (walk_quiet xs base c.args.view.inside c.args.view.words room c.requires.told c.loop-at.nest.height c.loop-at.at stop low (omega (arith, lt, most))
          (λ k l u. still_by xs base c.args.view.inside c.args.view.words room c.requires.told c.loop-at.nest.height c.stops_at.result s.brackets s.borders s.set k (omega (arith, u, lt, most))
          (n.none k l u) (c.requires.solid k (omega (arith, l, i.low)) (omega (arith, u, lt)))))))
          (led_stop ys zs xs base stop to (length c.args.made.now - (to - stop)) _ _ c.loop-at.nest c.in-Some.next lt long (omega (arith, most, room)) same at b.0 b.1 next.led);
    }
