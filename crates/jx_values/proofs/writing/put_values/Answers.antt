use Rattle.std.proofs.Common.{◌≡◌, ℕ, ◌+◌, List, ◌++◌, drop, get_or, rules, sym}
use Rattle.std.specs.Prelude.{flat_map}
use Rattle.std.proofs.lemmas.Option.{get_or_from_slice_get}
use Rattle.jx_ends.specs.Ends.{AppendsBeginning}
use Rattle.jx_words.proofs.PutSteps.{after_lines}
use Rattle.jx_values.specs.Values.{value_line}
use Rattle.jx_values.proofs.Lines.{fails, next_line, no_line, one_more}
use Rattle.jx_values.proofs.writing.put_values.Goals as goal

pub returns-in_err-put_line-clause-err : goal.returns-in_err-put_line-clause-err
returns-in_err-put_line-clause-err g c =
    let contents = g.W.Sink.contents in
    let l = c.loop-number in
    let form = c.args.form in
    let text = c.args.text.now in
    let answers = c.args.answers.now in
    let answer = c.answer_at.result in
    let is : answer ≡ get_or answers l.number answer = sym (get_or_from_slice_get answers l.number answer answer c.answer_at.ensures) in
    let later : List ℕ = flat_map (value_line form text) (drop (l.number + 1) answers) in
    let step : value_line form text answer ++ later ≡ flat_map (value_line form text) (drop l.number answers) =
    next_line form text answers l.number answer c.loop-number-test.true is in
    let beginning : AppendsBeginning (contents c.args.writer.now) (contents c.put_line.new.writer) (c.args.out.now.items ++ flat_map (value_line form text) answers) =
    fails (contents c.args.writer.now) (contents l.writer) l.out.items (flat_map (value_line form text) (drop l.number answers)) (c.args.out.now.items ++ flat_map (value_line form text) answers) l.invariant.put
    (value_line form text answer) later step (contents c.put_line.new.writer) c.in_err-put_line.ensures.err in
    search (rules, beginning)

pub loop-number-preserved : goal.loop-number-preserved
loop-number-preserved g c =
    let contents = g.W.Sink.contents in
    let l = c.loop-number in
    let form = c.args.form in
    let text = c.args.text.now in
    let answers = c.args.answers.now in
    let answer = c.answer_at.result in
    let is : answer ≡ get_or answers l.number answer = sym (get_or_from_slice_get answers l.number answer answer c.answer_at.ensures) in
    let later : List ℕ = flat_map (value_line form text) (drop (l.number + 1) answers) in
    let step : value_line form text answer ++ later ≡ flat_map (value_line form text) (drop l.number answers) =
    next_line form text answers l.number answer c.loop-number-test.true is in
    record {
      put =
          one_more (contents c.args.writer.now) (contents l.writer) l.out.items (flat_map (value_line form text) (drop l.number answers)) (c.args.out.now.items ++ flat_map (value_line form text) answers) l.invariant.put
          (value_line form text answer) later step (contents c.put_line.new.writer) c.put_line.new.out.items c.in_ok-put_line.ensures.ok;
      going = c.in_ok-put_line.ensures.failed;
      large = c.in_ok-put_line.ensures.large;
    }

pub returns-clause-ok : goal.returns-clause-ok
returns-clause-ok g c =
    let contents = g.W.Sink.contents in
    let l = c.loop-number in
    let form = c.args.form in
    let text = c.args.text.now in
    let answers = c.args.answers.now in
    after_lines (contents c.args.writer.now) (contents l.writer) l.out.items (flat_map (value_line form text) (drop l.number answers)) (c.args.out.now.items ++ flat_map (value_line form text) answers) l.invariant.put
    (no_line form text answers l.number l.invariant.put.so_far c.loop-number-test.false)
