use Rattle.std.proofs.Common.{◌≡◌, ◌+◌, ◌∙◌, ◌++◌, Bool, ap, arith, false, sym, subst}
use Rattle.std.specs.Prelude.{◌==◌}
use Rattle.std.proofs.lemmas.Bool.Decides.{nat_tests}
use Rattle.jx_serve.specs.inside.Sound.{list_head, IsBegun}
use Rattle.jx_serve.proofs.Opens.{both_true}
use Rattle.jx_serve.proofs.Ranges.{listed, one_element}
use Rattle.jx_serve.proofs.selection_words.add_selected.Goals as goal

pub loop-number-init : goal.loop-number-init
loop-number-init c = λ yes. (c.is_plain_value-known.ensures yes, c.in_ok-begin_list.ensures ∙ ap (λ o. o ++ list_head c.args.id.now) c.requires)

pub loop-number-preserved : goal.loop-number-preserved
loop-number-preserved c = λ yes.
    let t = both_true c.loop-number.known c.in_ok-is_known.is_known (sym c.both-known.ensures ∙ yes) in
    let before = c.loop-number.invariant t.0 in
    let later : (c.loop-number.number + 1 == 0) ≡ false = grind (arith, nat_tests) in (
      before.0,
      subst (λ (none : Bool). IsBegun (list_head c.args.id.now) 510 none c.add_selection.new.out.items) (sym later)
          (one_element (list_head c.args.id.now) 510 (c.loop-number.number == 0) c.loop-number.out.items c.add_comma.new.out.items c.add_selection.new.out.items before.1 c.in_ok-add_comma.ensures
          (c.in_ok-is_known.ensures t.1)),
    )

pub returns : goal.returns
returns c = λ yes.
    let now = c.loop-number.invariant yes in
    listed c.args.id.now c.loop-number.out.items c.extend_from_slice.new.self.items (c.loop-number.number == 0) now.0 now.1 c.in_ok-extend_from_slice.ensures.items
