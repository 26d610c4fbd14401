use Rattle.std.proofs.Common.{Err, ap, codes, length, refl}
use Rattle.jx_wire.specs.Requests.{change_pointer, IsChange}
use Rattle.jx_wire.proofs.Listed.{all_told, none_told, one_more}
use Rattle.jx_wire.proofs.Requests.{wrong_was}
use Rattle.jx_wire.proofs.parameters.changes_of.Goals as goal

pub returns-in_err-change-clause-wrong : goal.returns-in_err-change-clause-wrong
returns-in_err-change-clause-wrong c = λ e tree is changes h.
    let l = c.loop-element in
    none_told IsChange c.args.message.now change_pointer _ c.in-Some.elements l.yielded l.element-iterator l.changes.items l.invariant c.into_iter-element-iterator.ensures.into_iter_gives
    (c.in-Some.ensures.each (codes "/params/contentChanges") c.requires) c.in-Some.ensures.few c.next.new.self c.in-Some-element.element c.in-Some-element.ensures.steps
    (λ here. c.in_err-change.ensures.wrong (change_pointer (length l.yielded)) here (ap Err (wrong_was c.from_residual.result c.in_err-change.field-0.0 _ c.from_residual.ensures.1 e))) tree is changes h.each

pub loop-element-preserved : goal.loop-element-preserved
loop-element-preserved c =
    let l = c.loop-element in
    one_more IsChange c.args.message.now change_pointer _ c.in-Some.elements l.yielded l.element-iterator l.changes.items l.invariant c.into_iter-element-iterator.ensures.into_iter_gives
    (c.in-Some.ensures.each (codes "/params/contentChanges") c.requires) c.in-Some.ensures.few c.next.new.self c.in-Some-element.element _ c.in_ok-change.change c.in-Some-element.ensures.steps c.in_ok-add.ensures
    (λ here. c.in_ok-change.ensures.ok (change_pointer (length l.yielded)) here)

pub returns-clause-ok : goal.returns-clause-ok
returns-clause-ok c = λ tree is.
    let l = c.loop-element in
    record {
      list = c.in-Some.ensures.list (codes "/params/contentChanges") c.requires refl tree is;
      each = all_told IsChange c.args.message.now change_pointer _ c.in-Some.elements l.yielded l.element-iterator l.changes.items l.invariant c.into_iter-element-iterator.ensures.into_iter_gives
          (c.in-Some.ensures.each (codes "/params/contentChanges") c.requires) c.in-Some.ensures.few c.in-None.ensures.steps.0 tree is;
    }
