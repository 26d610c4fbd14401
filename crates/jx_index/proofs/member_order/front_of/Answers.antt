use Rattle.std.proofs.Common.{◌+◌, ◌*◌, ◌-◌, ◌<◌, ◌≤◌, ◌^◌, List, ℕ, sym, ap, ◌∙◌, arith}
use Rattle.jx_index.specs.inside.NameFronts.{behind_digit, front_from}
use Rattle.jx_index.specs.inside.UnitsLeft.{units_left}
use Rattle.jx_index.proofs.NameFronts.{digit_low, digit_more, digits_done, has_room, low_more}
use Rattle.jx_index.proofs.member_order.front_of.Goals as goal

pub loop-at-init : goal.loop-at-init
loop-at-init c = record { is = ap (front_from 0 8) c.new-units.ensures; low = omega arith }

pub overflow_mul-front : goal.overflow_mul-front
overflow_mul-front c =
    let l = c.loop-at in
    let r : l.front * 256 + 0 < 2 ^ 64 = has_room l.at l.front 0 c.loop-at-test.true l.invariant.low (omega arith) in
    omega (arith, r)

pub overflow_add-front : goal.overflow_add-front
overflow_add-front c =
    let l = c.loop-at in
    let d : c.next_digit.result ≤ 255 = omega (arith, digit_low (units_left l.units), c.next_digit.ensures.digit) in
    let r : l.front * 256 + c.next_digit.result < 2 ^ 64 = has_room l.at l.front c.next_digit.result c.loop-at-test.true l.invariant.low d in
    omega (arith, r)

pub loop-at-preserved : goal.loop-at-preserved
loop-at-preserved c =
    let l = c.loop-at in
    let d : c.next_digit.result ≤ 255 = omega (arith, digit_low (units_left l.units), c.next_digit.ensures.digit) in
    record {
      is = ap (λ (us : List ℕ). front_from (l.front * 256 + c.next_digit.result) (8 - (l.at + 1)) us) c.next_digit.ensures.behind
          ∙ ap (λ (n : ℕ). front_from (l.front * 256 + n) (8 - (l.at + 1)) (behind_digit (units_left l.units))) c.next_digit.ensures.digit
          ∙ sym (digit_more l.front l.at (units_left l.units) c.loop-at-test.true)
          ∙ l.invariant.is;
      low = low_more l.front l.at c.next_digit.result l.invariant.low d;
    }

pub returns : goal.returns
returns c =
    let l = c.loop-at in
    sym (digits_done l.front l.at (units_left l.units) (let f = c.loop-at-test.false in omega (arith, f))) ∙ l.invariant.is
