use Rattle.std.proofs.Common.{List, subst, sym}
use Rattle.std.specs.List.{AllZip}
use Rattle.jx_c.specs.Indexes.{AreAnswersOf}
use Rattle.jx_c.specs.LookUps.{IsPointerOf}
use Rattle.jx_c.specs.Seeks.{HasSought, SeekingValue}
use Rattle.jx_c.specs.declared.texts.all.JxPointer.{JxPointer}
use Rattle.jx_c.proofs.Alls.{read_of}
use Rattle.jx_c.proofs.Fed.{is_read}
use Rattle.jx_c.proofs.streams.seeking.Seeking.answer.Goals as goal

pub returns-clause-answers : goal.returns-clause-answers
returns-clause-answers c = λ settings pointers text told_of.
    let h = subst (λ (s : SeekingValue). HasSought settings pointers text s) (sym c.self.view_is) told_of in
    let s = c.self.inside in
    let read = c.in_ok-read.read in
    let e = c.in_ok-read.ensures in
    let spelt = subst (λ (ps : List JxPointer). AllZip (λ (pointer : JxPointer). IsPointerOf pointer.bytes.now) ps h.read) (sym h.given) h.spelt in
    let told = is_read settings h.read text s.finder h.fed read e.accepted e.refused e.found in
    subst (λ (ps : List JxPointer). AreAnswersOf settings text ps c.args.answers.now c.answer_all.new.answers) h.given
    (c.answer_all.ensures settings text (read_of settings text s.pointers.now h.read read spelt told))
