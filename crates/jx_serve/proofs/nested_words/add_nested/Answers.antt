use Rattle.std.proofs.Common.{ap, ◌∙◌, ◌++◌, length, sym}
use Rattle.jx_serve.specs.inside.Sound.{list_head}
use Rattle.jx_serve.proofs.Opens.{both_true, open_first}
use Rattle.jx_serve.proofs.Texts.{answered}
use Rattle.jx_serve.proofs.nested_words.add_nested.Goals as goal

pub loop-number-init : goal.loop-number-init
loop-number-init c = λ yes. (
  c.is_plain_value-known.ensures yes,
  open_first (list_head c.args.id.now) c.begin_list.new.out.items (length c.new-levels.result.items) (ap length c.new-levels.ensures.items)
      (c.in_ok-begin_list.ensures ∙ ap (λ o. o ++ list_head c.args.id.now) c.requires),
)

pub loop-number-preserved : goal.loop-number-preserved
loop-number-preserved c = λ yes.
    let t = both_true c.loop-number.known c.in_ok-is_known.is_known (sym c.both-known.ensures ∙ yes) in
    let before = c.loop-number.invariant t.0 in
    (before.0, c.in_ok-is_known.ensures t.1 (list_head c.args.id.now) before.1)

pub returns : goal.returns
returns c = λ yes.
    let now = c.loop-number.invariant yes in
    answered c.args.id.now c.loop-number.out.items c.close_to.new.out.items c.extend_from_slice.new.self.items (length c.loop-number.levels.items) now.0 now.1 c.in_ok-close_to.ensures.bytes
    c.in_ok-extend_from_slice.ensures.items
