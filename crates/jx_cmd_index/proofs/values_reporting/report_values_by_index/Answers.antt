use Rattle.std.specs.Prelude.{◌≢◌, Option, map, string_bytes}
use Rattle.std.proofs.Common.{◌≡◌, ℕ, List, subst, sym, ap, ◌∙◌, ◌⊎◌, inr}
use Rattle.std.specs.Io.KnownBytes.{Appends}
use Rattle.std.proofs.lemmas.Result.{err_from_is_err_and}
use Rattle.jx_words.specs.declared.pointer_answer.PointerAnswer.{PointerAnswer}
use Rattle.jx_values.specs.Values.{exit_by}
use Rattle.jx_cmd_index.specs.declared.look_fault.LookFault.TheVariants as fault
use Rattle.jx_cmd_index.specs.inside.Looked.{AreAnswersBySaved}
use Rattle.jx_cmd_index.specs.PlaceReports.{FailsFor}
use Rattle.jx_cmd_index.proofs.PlaceReports.{handed, same_fault}
use Rattle.jx_cmd_index.specs.ValueReports.{WritesFirst}
use Rattle.jx_cmd_index.specs.inside.ValueLines.{BeganSome, WroteAll, WroteSome}
use Rattle.jx_cmd_index.specs.inside.Texts.{IsChangeIn}
use Rattle.jx_cmd_index.proofs.ValueReports.{begins, fails, writes, writes_first}
use Rattle.jx_cmd_index.proofs.values_reporting.report_values_by_index.Goals as goal

pub returns-in_err-told-clause-first : goal.returns-in_err-told-clause-first
returns-in_err-told-clause-first g c =
    let saved = g.S.Source.remaining c.args.saved.now in
    let content = g.F.ReadAt.content c.args.file.now in
    let contents = g.W.Sink.contents in
    let pointers = map string_bytes c.args.pointers.now in
    let form = c.args.form in
    let looked = c.in_ok-index.field-0 in
    let answers : List PointerAnswer = c.deref.result.now in
    let answered : AreAnswersBySaved pointers saved content answers = subst (λ (l : List PointerAnswer). AreAnswersBySaved pointers saved content l) (sym c.deref.ensures.value) c.in_ok-index.ensures.answers in
    let p = err_from_is_err_and c.from_residual-in_err-told.result c.from_residual-in_err-told.ensures.1 in
    handed (λ f. f ≢ fault.Write → (c.write_answers.new.writer ≡ c.args.writer.now) ⊎ WritesFirst form pointers saved content (contents c.args.writer.now) (contents c.write_answers.new.writer))
    c.from_residual-in_err-told.result c.in_err-told.field-0.0 p.0 p.1 p.2
    (λ no. inr (writes_first form pointers saved content looked.index answers c.in_ok-index.ensures.index answered (contents c.args.writer.now) (contents c.write_answers.new.writer)
    (subst (λ (o : Option (List ℕ)). WroteSome o looked.index form pointers answers (contents c.args.writer.now) (contents c.write_answers.new.writer)) c.in_ok-index.ensures.kept (c.in_err-told.ensures.some no))))

pub returns-in_err-told-clause-beginning : goal.returns-in_err-told-clause-beginning
returns-in_err-told-clause-beginning g c = λ is.
    let saved = g.S.Source.remaining c.args.saved.now in
    let content = g.F.ReadAt.content c.args.file.now in
    let contents = g.W.Sink.contents in
    let pointers = map string_bytes c.args.pointers.now in
    let form = c.args.form in
    let looked = c.in_ok-index.field-0 in
    let answers : List PointerAnswer = c.deref.result.now in
    let answered : AreAnswersBySaved pointers saved content answers = subst (λ (l : List PointerAnswer). AreAnswersBySaved pointers saved content l) (sym c.deref.ensures.value) c.in_ok-index.ensures.answers in
    let p = err_from_is_err_and c.from_residual-in_err-told.result c.from_residual-in_err-told.ensures.1 in
    begins form pointers saved content looked.index answers c.in_ok-index.ensures.index answered (contents c.args.writer.now) (contents c.write_answers.new.writer)
    (subst (λ (o : Option (List ℕ)). BeganSome o looked.index form pointers answers (contents c.args.writer.now) (contents c.write_answers.new.writer)) c.in_ok-index.ensures.kept
    (c.write_answers.ensures.beginning (same_fault c.write_answers.result c.from_residual-in_err-told.result c.in_err-told.field-0.0 p.0 fault.Write c.in_err-told.was p.1 p.2 is)))

pub returns-in_err-told-clause-fault : goal.returns-in_err-told-clause-fault
returns-in_err-told-clause-fault g c =
    let saved = g.S.Source.remaining c.args.saved.now in
    let content = g.F.ReadAt.content c.args.file.now in
    let looked = c.in_ok-index.field-0 in
    let p = err_from_is_err_and c.from_residual-in_err-told.result c.from_residual-in_err-told.ensures.1 in
    handed (FailsFor saved content) c.from_residual-in_err-told.result c.in_err-told.field-0.0 p.0 p.1 p.2
    (fails saved content looked.index c.in_err-told.field-0.0 c.in_ok-index.ensures.index c.in_err-told.ensures.fault
    (subst (λ (o : Option (List ℕ)). IsChangeIn o looked.index c.in_err-told.field-0.0) c.in_ok-index.ensures.kept c.in_err-told.ensures.changed))

pub returns-clause-ok : goal.returns-clause-ok
returns-clause-ok g c =
    let saved = g.S.Source.remaining c.args.saved.now in
    let content = g.F.ReadAt.content c.args.file.now in
    let contents = g.W.Sink.contents in
    let pointers = map string_bytes c.args.pointers.now in
    let form = c.args.form in
    let looked = c.in_ok-index.field-0 in
    let answers : List PointerAnswer = c.deref.result.now in
    let answered : AreAnswersBySaved pointers saved content answers = subst (λ (l : List PointerAnswer). AreAnswersBySaved pointers saved content l) (sym c.deref.ensures.value) c.in_ok-index.ensures.answers in
    let told : List ℕ = c.in_ok-told.told.items in
    writes form pointers saved content looked.index answers c.in_ok-index.ensures.index answered told c.exit_by.result (contents c.args.writer.now) (contents c.write_answers.new.writer)
    (g.E.Sink.has_failed c.tell.new.errors) (g.E.Sink.contents c.args.errors.now) (g.E.Sink.contents c.tell.new.errors)
    (subst (λ (o : Option (List ℕ)). WroteAll o looked.index form pointers answers told (contents c.args.writer.now) (contents c.write_answers.new.writer)) c.in_ok-index.ensures.kept c.in_ok-told.ensures.ok)
    (c.exit_by.ensures ∙ ap (λ (l : List ℕ). exit_by l) c.deref-3.ensures.value)
    (λ no. subst (λ (l : List ℕ). Appends (g.E.Sink.contents c.args.errors.now) (g.E.Sink.contents c.tell.new.errors) l) c.deref-2.ensures.value (c.tell.ensures no))
