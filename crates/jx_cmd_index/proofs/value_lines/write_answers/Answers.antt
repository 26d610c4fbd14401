use Rattle.std.specs.Prelude.{◌≢◌, Option, map, string_bytes}
use Rattle.std.proofs.Common.{ℕ, ◌<◌, List, length, refl, sym, subst, ◌∙◌, rules, arith}
use Rattle.std.proofs.lemmas.List.{length-map}
use Rattle.std.proofs.lemmas.Option.{get_or_from_slice_get}
use Rattle.std.proofs.lemmas.Result.{err_from_is_err_and}
use Rattle.jx_cmd_index.specs.declared.look_fault.LookFault.TheVariants as fault
use Rattle.jx_cmd_index.proofs.PlaceReports.{handed, same_fault}
use Rattle.jx_cmd_index.specs.inside.HeldChunks.{IsHeldIn}
use Rattle.jx_cmd_index.specs.inside.ValueLines.{AddsTold, BeganLine, WroteLine, WroteSome}
use Rattle.jx_cmd_index.proofs.ValueLineSteps.{began_more, none_yet, some_lines, wrote_more}
use Rattle.jx_cmd_index.proofs.ValueSteps.{none_held}
use Rattle.jx_cmd_index.proofs.value_lines.write_answers.Goals as goal

pub answers-init : goal.answers-init
answers-init g c =
    let known = g.F.ReadAt.content c.args.file.now in
    record {
      file = c.requires.file;
      writer = c.requires.writer;
      kept = refl;
      held = none_held known c.args.index.now c.none-held.result c.none-held.ensures.start c.none-held.ensures.end c.none-held.ensures.bytes;
      wrote = none_yet known c.args.index.now c.args.form (map string_bytes c.args.pointers.now) c.args.answers.now c.new-told.result.items (g.W.Sink.contents c.args.writer.now) c.new-told.ensures.items;
    }

pub answers-preserved : goal.answers-preserved
answers-preserved g c =
    let known = g.F.ReadAt.content c.args.file.now in
    let contents = g.W.Sink.contents in
    let index = c.args.index.now in
    let form = c.args.form in
    let pointers = map string_bytes c.args.pointers.now in
    let answers = c.args.answers.now in
    let i = c.answers.number in
    let pointer = c.pointer_at-pointer.result.now in
    let answer = c.answer_at-answer.result in
    let kept = c.answers.invariant.kept in
    let low : i < length pointers = omega (arith, length-map c.args.pointers.now string_bytes, c.answers-test.true, c.min-count.ensures) in
    let short : i < length answers = omega (arith, c.answers-test.true, c.min-count.ensures) in
    let line : WroteLine known index form answer (contents c.answers.writer) (contents c.write_answer.new.writer) =
    subst (λ (o : Option (List ℕ)). WroteLine o index form answer (contents c.answers.writer) (contents c.write_answer.new.writer)) kept c.in_ok-write_answer.ensures.ok in
    let adds : AddsTold known index form pointer answer c.answers.told.items c.write_answer.new.told.items =
    subst (λ (o : Option (List ℕ)). AddsTold o index form pointer answer c.answers.told.items c.write_answer.new.told.items) kept c.in_ok-write_answer.ensures.told in
    record {
      file = search rules;
      writer = search rules;
      kept = c.in_ok-write_answer.ensures.kept ∙ kept;
      held = subst (λ (o : Option (List ℕ)). IsHeldIn o index c.write_answer.new.held) kept c.in_ok-write_answer.ensures.held;
      wrote = wrote_more known index form pointers answers i pointer answer pointer answer low short
          (sym (get_or_from_slice_get pointers i pointer pointer c.pointer_at-pointer.ensures)) (sym (get_or_from_slice_get answers i answer answer c.answer_at-answer.ensures))
          c.answers.told.items (contents c.args.writer.now) (contents c.answers.writer) (contents c.write_answer.new.writer) c.answers.invariant.wrote c.write_answer.new.told.items line adds;
    }

pub returns-in_err-write_answer-clause-some : goal.returns-in_err-write_answer-clause-some
returns-in_err-write_answer-clause-some g c =
    let known = g.F.ReadAt.content c.args.file.now in
    let contents = g.W.Sink.contents in
    let pointers = map string_bytes c.args.pointers.now in
    let p = err_from_is_err_and c.from_residual.result c.from_residual.ensures.1 in
    handed (λ f. f ≢ fault.Write → WroteSome known c.args.index.now c.args.form pointers c.args.answers.now (contents c.args.writer.now) (contents c.write_answer.new.writer)) c.from_residual.result
    c.in_err-write_answer.field-0.0 p.0 p.1 p.2
    (λ no. subst (λ w. WroteSome known c.args.index.now c.args.form pointers c.args.answers.now (contents c.args.writer.now) (contents w)) (sym (c.in_err-write_answer.ensures.unwritten no))
    (some_lines known c.args.index.now c.args.form pointers c.args.answers.now c.answers.number c.answers.told.items (contents c.args.writer.now) (contents c.answers.writer) c.answers.invariant.wrote))

pub returns-in_err-write_answer-clause-beginning : goal.returns-in_err-write_answer-clause-beginning
returns-in_err-write_answer-clause-beginning g c = λ is.
    let known = g.F.ReadAt.content c.args.file.now in
    let contents = g.W.Sink.contents in
    let index = c.args.index.now in
    let form = c.args.form in
    let pointers = map string_bytes c.args.pointers.now in
    let answers = c.args.answers.now in
    let i = c.answers.number in
    let pointer = c.pointer_at-pointer.result.now in
    let answer = c.answer_at-answer.result in
    let low : i < length pointers = omega (arith, length-map c.args.pointers.now string_bytes, c.answers-test.true, c.min-count.ensures) in
    let short : i < length answers = omega (arith, c.answers-test.true, c.min-count.ensures) in
    let p = err_from_is_err_and c.from_residual.result c.from_residual.ensures.1 in
    let begun : BeganLine known index form pointer answer (contents c.answers.writer) (contents c.write_answer.new.writer) =
    subst (λ (o : Option (List ℕ)). BeganLine o index form pointer answer (contents c.answers.writer) (contents c.write_answer.new.writer)) c.answers.invariant.kept
    (c.write_answer.ensures.beginning (same_fault c.write_answer.result c.from_residual.result c.in_err-write_answer.field-0.0 p.0 fault.Write c.in_err-write_answer.was p.1 p.2 is)) in
    began_more known index form pointers answers i pointer answer pointer answer low short
    (sym (get_or_from_slice_get pointers i pointer pointer c.pointer_at-pointer.ensures)) (sym (get_or_from_slice_get answers i answer answer c.answer_at-answer.ensures))
    c.answers.told.items (contents c.args.writer.now) (contents c.answers.writer) (contents c.write_answer.new.writer) c.answers.invariant.wrote begun

pub returns-clause-ok : goal.returns-clause-ok
returns-clause-ok g c = record {
  count = c.answers.number;
  all = omega (arith, length-map c.args.pointers.now string_bytes, c.answers-test.false, c.min-count.ensures);
  wrote = c.answers.invariant.wrote;
}
