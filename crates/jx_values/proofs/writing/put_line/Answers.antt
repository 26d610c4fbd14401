use Rattle.std.proofs.Common.{ℕ, List, [], ◌∷◌, ◌++◌, append_assoc, rules, subst}
use Rattle.std.specs.Prelude.{unwrap_or}
use Rattle.std.proofs.lemmas.Result.{on_err_weaker, on_ok_weaker}
use Rattle.jx_ends.specs.Ends.{AppendsBeginning}
use Rattle.jx_words.proofs.PutSteps.{beginning_of_more}
use Rattle.jx_values.specs.Values.{written}
use Rattle.jx_values.proofs.Lines.{put_both, put_both_in_part}
use Rattle.jx_values.proofs.writing.put_line.Goals as goal

pub returns-clause-ok : goal.returns-clause-ok
returns-clause-ok g c =
    let contents = g.W.Sink.contents in
    on_ok_weaker c.put.result
    (put_both (contents c.args.writer.now) (contents c.put_answer.new.writer) c.args.out.now.items c.put_answer.new.out.items (unwrap_or (written c.args.form c.args.text.now c.args.answer) []) (10 ∷ []) c.in_ok-put_answer.ensures.ok
    (contents c.put.new.writer) c.put.new.out.items) c.put.ensures.ok

pub returns-clause-err : goal.returns-clause-err
returns-clause-err g c =
    let contents = g.W.Sink.contents in
    on_err_weaker c.put.result
    (put_both_in_part (contents c.args.writer.now) (contents c.put_answer.new.writer) c.args.out.now.items c.put_answer.new.out.items (unwrap_or (written c.args.form c.args.text.now c.args.answer) []) (10 ∷ []) c.in_ok-put_answer.ensures.ok
    (contents c.put.new.writer)) c.put.ensures.err

pub returns-in_err-put_answer-clause-err : goal.returns-in_err-put_answer-clause-err
returns-in_err-put_answer-clause-err g c =
    let contents = g.W.Sink.contents in
    let old = contents c.args.writer.now in
    let mid = contents c.put_answer.new.writer in
    let out : List ℕ = c.args.out.now.items in
    let bytes : List ℕ = unwrap_or (written c.args.form c.args.text.now c.args.answer) [] in
    let beginning : AppendsBeginning old mid (out ++ (bytes ++ (10 ∷ []))) =
    subst (AppendsBeginning old mid) (append_assoc out bytes (10 ∷ [])) (beginning_of_more old mid (out ++ bytes) (10 ∷ []) c.in_err-put_answer.ensures.err) in
    search (rules, beginning)
