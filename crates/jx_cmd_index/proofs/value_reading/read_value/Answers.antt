use Rattle.std.specs.Prelude.{Option}
use Rattle.std.proofs.Common.{ℕ, ◌≤◌, List, rules, arith, refl, subst, ◌∙◌}
use Rattle.jx_cmd_index.specs.inside.HeldChunks.{IsHeldIn}
use Rattle.jx_cmd_index.proofs.ValueSteps.{all_come, none_yet, one_more}
use Rattle.jx_cmd_index.proofs.value_reading.read_value.Goals as goal

pub chunks-init : goal.chunks-init
chunks-init g c = record {
  unfailed = c.requires.unfailed;
  kept = refl;
  held = c.requires.held;
  begun = omega arith;
  reached = λ low. absurd (omega (arith, low));
  value = none_yet (g.F.ReadAt.content c.args.file.now) c.args.index.now c.args.span.start c.in_ok-value.value.items c.in_ok-value.ensures.items;
}

pub chunks-preserved : goal.chunks-preserved
chunks-preserved g c =
    let known = g.F.ReadAt.content c.args.file.now in
    let index = c.args.index.now in
    let kept = c.chunks.invariant.kept in
    let held : IsHeldIn known index c.hold.new.held = subst (λ (o : Option (List ℕ)). IsHeldIn o index c.hold.new.held) kept c.in_ok-hold.ensures.held in
    let behind : c.chunks.at ≤ c.min-to.result = omega (arith, c.in_ok-hold.ensures.end, c.chunks-test.true, c.min-to.ensures) in
    record {
      unfailed = search rules;
      kept = c.in_ok-hold.ensures.kept ∙ kept;
      held = held;
      begun = omega (arith, c.chunks.invariant.begun, behind);
      reached = λ low. omega (arith, c.min-to.ensures);
      value = one_more known index c.args.span.start c.chunks.at c.min-to.result c.hold.new.held.span.start c.hold.new.held.span.end c.chunks.value.items c.extend_from_slice.new.self.items
          c.hold.new.held.bytes.items c.part.result.now c.chunks.invariant.begun c.in_ok-hold.ensures.start behind (omega (arith, c.min-to.ensures)) c.chunks.invariant.value held.bytes c.part.ensures
          c.in_ok-extend_from_slice.ensures.items;
    }

pub returns-clause-value : goal.returns-clause-value
returns-clause-value g c =
    all_come (g.F.ReadAt.content c.args.file.now) c.args.index.now c.args.span.start c.args.span.end c.chunks.at c.chunks.value.items c.chunks.invariant.begun
    (omega (arith, c.chunks-test.false, c.min-end.ensures)) (λ some. let r = c.chunks.invariant.reached some in omega (arith, r, c.min-end.ensures)) c.chunks.invariant.value
