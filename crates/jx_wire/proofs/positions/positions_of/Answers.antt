use Rattle.std.proofs.Common.{codes, length, refl}
use Rattle.jx_wire.specs.Requests.{position_pointer, IsPlace}
use Rattle.jx_wire.proofs.Listed.{all_told, none_told, one_more}
use Rattle.jx_wire.proofs.positions.positions_of.Goals as goal

pub returns-in_default-place_at-clause-wrong : goal.returns-in_default-place_at-clause-wrong
returns-in_default-place_at-clause-wrong c = λ e tree is places h.
    let l = c.loop-element in
    none_told IsPlace c.args.message.now position_pointer _ c.in-Some.elements l.yielded l.element-iterator l.places.items l.invariant c.into_iter-element-iterator.ensures.into_iter_gives
    (c.in-Some.ensures.each (codes "/params/positions") c.requires) c.in-Some.ensures.few c.next.new.self c.in-Some-element.element c.in-Some-element.ensures.steps
    (λ here. c.in_default-place_at.ensures.none (position_pointer (length l.yielded)) here refl) tree is places h.each

pub loop-element-preserved : goal.loop-element-preserved
loop-element-preserved c =
    let l = c.loop-element in
    one_more IsPlace c.args.message.now position_pointer _ c.in-Some.elements l.yielded l.element-iterator l.places.items l.invariant c.into_iter-element-iterator.ensures.into_iter_gives
    (c.in-Some.ensures.each (codes "/params/positions") c.requires) c.in-Some.ensures.few c.next.new.self c.in-Some-element.element _ c.in-Some-place_at.place c.in-Some-element.ensures.steps c.in_ok-add.ensures
    (λ here. c.in-Some-place_at.ensures.some (position_pointer (length l.yielded)) here)

pub returns-clause-ok : goal.returns-clause-ok
returns-clause-ok c = λ tree is.
    let l = c.loop-element in
    record {
      list = c.in-Some.ensures.list (codes "/params/positions") c.requires refl tree is;
      each = all_told IsPlace c.args.message.now position_pointer _ c.in-Some.elements l.yielded l.element-iterator l.places.items l.invariant c.into_iter-element-iterator.ensures.into_iter_gives
          (c.in-Some.ensures.each (codes "/params/positions") c.requires) c.in-Some.ensures.few c.in-None.ensures.steps.0 tree is;
    }
