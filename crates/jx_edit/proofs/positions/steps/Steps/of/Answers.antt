use Rattle.std.proofs.Common.{◌≡◌, ◌+◌, ◌*◌, ℕ, [], ◌∷◌, ap, arith, length, length-append, min, take, ◌∙◌}
use Rattle.jx_edit.specs.Positions.{first, position_behind}
use Rattle.jx_edit.proofs.Steps.{kept_push, next_step, step_fits, step_on}
use Rattle.jx_edit.proofs.positions.steps.Steps.of.Goals as goal

pub joined-position-requires : goal.joined-position-requires
joined-position-requires c =
    let bytes = c.args.bytes.now in
    let k = c.loop-number.number in
    step_fits c.args.encoding c.loop-number.position c.behind.result bytes (k * 128) c.min-end.result (omega arith) (omega arith) (omega arith) c.loop-number.invariant.next c.behind.ensures

pub loop-number-preserved : goal.loop-number-preserved
loop-number-preserved c =
    let bytes = c.args.bytes.now in
    let k = c.loop-number.number in
    let to : c.min-end.result ≡ min (k * 128 + 128) (length bytes) = omega arith in
    let on : c.joined-position.result ≡ position_behind c.args.encoding first (take c.min-end.result bytes) =
    c.joined-position.ensures ∙ step_on c.args.encoding c.loop-number.position c.behind.result bytes (k * 128) c.min-end.result (omega arith) c.loop-number.invariant.next c.behind.ensures in
    let f = λ (n : ℕ). position_behind c.args.encoding first (take (n * 128) bytes) in
    record {
      kept =
          kept_push f c.loop-number.steps.items c.push.new.self.items c.in-Some.step c.in_ok-push.ensures.items c.loop-number.invariant.kept
          (c.in-Some.ensures ∙ c.loop-number.invariant.next ∙ ap f (omega (arith, c.loop-number.invariant.count)));
      count = ap length c.in_ok-push.ensures.items ∙ omega (arith, length-append c.loop-number.steps.items (c.in-Some.step ∷ []), c.loop-number.invariant.count);
      next = next_step c.args.encoding c.joined-position.result bytes k (k * 128) c.min-end.result (omega arith) to on;
    }
