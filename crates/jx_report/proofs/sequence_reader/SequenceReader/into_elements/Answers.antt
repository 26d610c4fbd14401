use Rattle.std.proofs.Common.{◌≡◌, List, ℕ, ap, sym, subst, ◌∙◌}
use Rattle.std.specs.List.{AllZip}
use Rattle.jx_run.specs.declared.texts.settings.FrontMark.{FrontMark}
use Rattle.jx_run.specs.declared.texts.settings.FrontMark.TheVariants.{Ignored, Refused}
use Rattle.jx_run.specs.Front.{front_of}
use Rattle.jx_run.specs.MarkAlone.{elements_by}
use Rattle.jx_index.specs.ByNames.{IsJudgedBy}
use Rattle.jx_report.specs.declared.sequence_reader.SequenceReader.{SequenceReader}
use Rattle.jx_report.proofs.SequenceSteps.{all_by_names, front_shows}
use Rattle.jx_report.proofs.sequence_reader.SequenceReader.into_elements.Goals as goal

pub returns-in-Refused : goal.returns-in-Refused
returns-in-Refused c = λ settings text h.
    let judged = c.end_element.new.self.judged.items in
    let e = c.in_ok-end_element.ensures.judged settings text h.read in
    let mark : settings.mark ≡ Refused = sym (ap (λ (s : SequenceReader). s.settings.mark) c.in_ok-end_element.ensures.rest ∙ ap (λ s. s.mark) h.read.settings_are) ∙ c.in-Refused.is in
    subst (λ (m : FrontMark). AllZip (IsJudgedBy settings text) (elements_by m text) judged) (sym mark) (all_by_names settings text e.told judged e.ended e.kept)

pub returns : goal.returns
returns c = λ settings text h.
    let e = c.in_ok-end_element.ensures.judged settings text h.read in
    let mark : settings.mark ≡ Ignored = sym (ap (λ (s : SequenceReader). s.settings.mark) c.in_ok-end_element.ensures.rest ∙ ap (λ s. s.mark) h.read.settings_are) ∙ c.in-Ignored.is in
    let seen = c.front-seen.ensures.value
    ∙ ap (λ (xs : List ℕ). front_of Ignored xs) (c.deref.ensures.value ∙ ap (λ (s : SequenceReader). s.first.items) c.in_ok-end_element.ensures.rest ∙ h.first)
    ∙ front_shows c.beginning_of_a_text_by_its_front.ensures.stays Ignored text in
    c.without_mark.ensures settings text mark seen (all_by_names settings text e.told c.end_element.new.self.judged.items e.ended e.kept)
