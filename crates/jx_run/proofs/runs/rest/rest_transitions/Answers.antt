use Rattle.std.proofs.Common.{◌≡◌, ◌+◌, ◌<◌, ◌∷◌, [], ◌++◌, All, length, sym, subst, arith}
use Rattle.std.proofs.lemmas.List.{length-append}
use Rattle.std.specs.Prelude.{slice_range}
use Rattle.jx_lex.specs.declared.alphabet.state.LexState.{LexState}
use Rattle.jx_lex.specs.Ordinal.{ordinal}
use Rattle.jx_run.specs.inside.Rest.{AreReadTransitions}
use Rattle.jx_run.proofs.Reducing.{states-many}
use Rattle.jx_run.proofs.RestTransitions.{IsThere, read_above, read_next, there_next}
use Rattle.jx_lex.proofs.StateOrder.{ordinal-low}
use Rattle.jx_run.proofs.runs.rest.rest_transitions.Goals as goal

pub loop-place-preserved : goal.loop-place-preserved
loop-place-preserved c =
    let l = c.loop-place in
    let v = l.invariant in
    let n = c.in_ok-transition.ensures in
    let olds = l.structures.items in
    let news = c.transition_from.new.structures.items in
    let bytes = slice_range c.args.text.now c.args.from c.args.to in
    let w = c.in_ok-transition.transition in
    let all = length-append l.transitions.items (w ∷ []) in
    let many = v.many in
    let before = v.few in
    let now = n.few in
    let long : length (l.transitions.items ++ w ∷ []) ≡ l.place + 1 = omega (arith, all, many) in
    record {
      many = subst (λ ws. length ws ≡ l.place + 1) (sym c.in_ok-push.ensures.items) long;
      few = omega (arith, before, now);
      there = subst (All (IsThere news)) (sym c.in_ok-push.ensures.items) (there_next olds news l.transitions.items w n.above v.there n.there);
      within = n.within v.within;
      reads = subst (λ ws. (s : LexState) → ordinal s < l.place + 1 → AreReadTransitions c.args.depth c.args.from bytes c.args.reached.now news ws s) (sym c.in_ok-push.ensures.items)
          (read_next c.args.depth c.args.from bytes c.args.reached.now c.all-states.result l.place _ olds news l.transitions.items w c.all-states.ensures v.many n.above v.reads n.reads);
    }

pub returns : goal.returns
returns c =
    let l = c.loop-place in
    let v = l.invariant in
    let n = c.in_ok-fill.ensures in
    let olds = l.structures.items in
    let news = c.fill.new.structures.items in
    let bytes = slice_range c.args.text.now c.args.from c.args.to in
    let end = l.auto.place-end in
    let test = c.loop-place-test.false in
    let count : length c.all-states.result ≡ 32 = subst (λ ss. length ss ≡ 32) (sym c.all-states.ensures) states-many in
    let place : l.place ≡ 32 = omega (arith, end, test, count) in
    let many = v.many in
    let few = v.few in
    let fill = n.many in
    record {
      all = omega (arith, many, place);
      there = λ k d low. let is = v.there k d low in omega (arith, is, fill);
      few = omega (arith, few, fill, place);
      within = n.within v.within;
      reads = λ s. read_above c.args.depth c.args.from bytes c.args.reached.now olds news l.transitions.items s n.above (v.reads s (let low = ordinal-low s in omega (arith, low, place)));
    }
