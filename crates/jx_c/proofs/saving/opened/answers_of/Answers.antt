use Rattle.std.proofs.Common.{List, Ok, subst, sym}
use Rattle.std.specs.List.{AllZip}
use Rattle.std.proofs.lemmas.Result.{IfErr-at_err, IfOk-at_ok}
use Rattle.jx_c.specs.Indexes.{AreAnswersOf}
use Rattle.jx_c.specs.LookUps.{IsPointerOf}
use Rattle.jx_c.specs.Opened.{any_names}
use Rattle.jx_c.specs.declared.texts.all.JxPointer.{JxPointer}
use Rattle.jx_c.proofs.Alls.{read_of}
use Rattle.jx_c.proofs.Opening.{any_found}
use Rattle.jx_c.proofs.saving.opened.answers_of.Goals as goal

pub returns-in-Ok-Ok-clause-answers : goal.returns-in-Ok-Ok-clause-answers
returns-in-Ok-Ok-clause-answers c = λ ok settings chunk text asked h.
    let come = c.resume.ensures.come settings chunk text h.read h.come.come in
    let found = any_found settings text h.read c.in-Ok-Ok.found.items (IfOk-at_ok _ c.in-Ok-Ok.field-0-is c.in-Ok-Ok.ensures.found settings chunk text h.read come) in
    let spelt = subst (λ (ps : List JxPointer). AllZip (λ (pointer : JxPointer). IsPointerOf pointer.bytes.now) ps h.read) (sym h.given_are) h.spelt in
    subst (λ (ps : List JxPointer). AreAnswersOf (any_names settings) text ps c.args.answers.now c.answer_all.new.answers) h.given_are
    (c.answer_all.ensures (any_names settings) text (read_of (any_names settings) text c.args.pointers.now h.read (Ok c.in-Ok-Ok.found) spelt found))

pub returns-in-Ok-Err-clause-damaged : goal.returns-in-Ok-Err-clause-damaged
returns-in-Ok-Err-clause-damaged c = λ is settings chunk text asked h.
    IfErr-at_err _ c.in-Ok-Err.field-0-is c.in-Ok-Err.ensures.damaged settings chunk text h.read (c.resume.ensures.come settings chunk text h.read h.come.come)
