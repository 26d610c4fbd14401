use Rattle.std.proofs.Common.{◌≡◌, ◌+◌, ◌++◌, arith, drop, get_or, rules, sym}
use Rattle.std.proofs.lemmas.Option.{get_or_from_slice_get}
use Rattle.jx_ends.specs.Ends.{AppendsBeginning}
use Rattle.jx_words.specs.Pointers.{answer_words}
use Rattle.jx_words.specs.inside.Lines.{pointer_lines}
use Rattle.jx_words.specs.Words.{line}
use Rattle.jx_words.proofs.PutSteps.{one_line_more, fails_between_lines, after_lines}
use Rattle.jx_words.proofs.LineSteps.{pointers_step, pointers_done}
use Rattle.jx_report.proofs.writing.write_pointers.Goals as goal

pub returns-in_err-make_room-clause-err : goal.returns-in_err-make_room-clause-err
returns-in_err-make_room-clause-err g c =
    let contents = g.W.Sink.contents in
    let l = c.loop-number in
    let beginning : AppendsBeginning (contents c.args.writer.now) (contents c.make_room.new.writer) (c.args.out.now.items ++ pointer_lines c.args.answers.now) =
    fails_between_lines (contents c.args.writer.now) (contents l.writer) l.out.items (pointer_lines (drop l.number c.args.answers.now)) (c.args.out.now.items ++ pointer_lines c.args.answers.now) l.invariant.put
    (contents c.make_room.new.writer) c.in_err-make_room.ensures.err in
    search (rules, beginning)

pub loop-number-preserved : goal.loop-number-preserved
loop-number-preserved g c =
    let contents = g.W.Sink.contents in
    let l = c.loop-number in
    let item = c.answer_at.result in
    let is : item ≡ get_or c.args.answers.now l.number item = sym (get_or_from_slice_get c.args.answers.now l.number item item c.answer_at.ensures) in
    record {
      put =
          one_line_more (contents c.args.writer.now) (contents l.writer) l.out.items (pointer_lines (drop l.number c.args.answers.now)) (c.args.out.now.items ++ pointer_lines c.args.answers.now) l.invariant.put
          (contents c.make_room.new.writer) c.make_room.new.out.items c.push_pointer.new.out.items (line (answer_words item)) (pointer_lines (drop (l.number + 1) c.args.answers.now)) c.in_ok-make_room.ensures.ok c.push_pointer.ensures.words
          (λ out longer e. pointers_step l.number c.args.answers.now item item out longer c.loop-number-test.true is e);
      going = c.in_ok-make_room.ensures.failed;
      large = omega (arith, c.in_ok-make_room.ensures.room, c.push_pointer.ensures.room.kept);
    }

pub returns-clause-ok : goal.returns-clause-ok
returns-clause-ok g c =
    let contents = g.W.Sink.contents in
    let l = c.loop-number in
    after_lines (contents c.args.writer.now) (contents l.writer) l.out.items (pointer_lines (drop l.number c.args.answers.now)) (c.args.out.now.items ++ pointer_lines c.args.answers.now) l.invariant.put
    (pointers_done l.number c.args.answers.now l.invariant.put.so_far c.loop-number-test.false)
