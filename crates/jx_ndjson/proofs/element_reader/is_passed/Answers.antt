use Rattle.std.proofs.Common.{◌≡◌, List, ℕ, sym, ap, ◌∙◌, arith}
use Rattle.jx_run.specs.declared.texts.settings.FrontMark.{FrontMark}
use Rattle.jx_run.specs.declared.texts.settings.FrontMark.TheVariants.{Ignored}
use Rattle.jx_run.specs.Front.{front_of}
use Rattle.jx_ndjson.specs.inside.ElementSteps.{is_passed_by}
use Rattle.jx_ndjson.proofs.Sequences.{front_shows}
use Rattle.jx_ndjson.proofs.element_reader.is_passed.Goals as goal

pub returns-in-Ignored : goal.returns-in-Ignored
returns-in-Ignored c = λ input end first.
    let is : c.args.mark ≡ Ignored = c.in-Ignored.is in
    let at : c.args.span.start ≡ 0 = c.if-span-eq0.true in
    let seen : c.front.result ≡ front_of Ignored input =
    c.front.ensures.value
    ∙ ap (λ (m : FrontMark). front_of m c.args.first.now) is
    ∙ ap (λ (xs : List ℕ). front_of Ignored xs) (first at)
    ∙ front_shows c.beginning_of_a_text_by_its_front.ensures.stays Ignored input in
    c.is_mark_alone.ensures.alone input seen (omega (arith, end)) ∙ sym (ap (λ (m : FrontMark). is_passed_by m input c.args.span) is)
