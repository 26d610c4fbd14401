use Rattle.std.proofs.Common.{◌≡◌, ℕ, List, ◌++◌, length, ap, sym, ◌∙◌}
use Rattle.std.specs.Prelude.{slice_range}
use Rattle.std.proofs.lemmas.List.{length-append}
use Rattle.std.proofs.lemmas.Result.{IfOk-weaker}
use Rattle.jx_run.specs.declared.texts.settings.NameRule.TheVariants.{Any, Unique}
use Rattle.jx_answer.proofs.NamedThere.{left_named}
use Rattle.jx_report.proofs.SequenceSteps.{slice_seam}
use Rattle.jx_report.proofs.sequence_reader.SequenceReader.named_last.Goals as goal

pub returns-in-Any : goal.returns-in-Any
returns-in-Any c = record {
  named = λ text rest held start end. left_named c.args.self.now.settings (text ++ rest) c.args.element (λ both. (let same : Any ≡ Unique = sym c.in-Any.is ∙ both.0 in absurd (cc)));
}

pub returns-in-Unique : goal.returns-in-Unique
returns-in-Unique c =
    let last = c.args.self.now.last.items in
    let s = c.args.element.span.start in
    let e = c.args.element.span.end in
    record {
      named = IfOk-weaker c.named_element.result _ _
          (λ named h text rest held start end.
          let f = held c.in-Unique.is in
          h (text ++ rest) (ap (λ (xs : List ℕ). slice_range (xs ++ rest) s e) f.1
          ∙ ap (λ (n : ℕ). slice_range ((f.0 ++ last) ++ rest) n e) (start ∙ sym f.2)
          ∙ slice_seam f.0 last rest e (end ∙ ap (λ (xs : List ℕ). length xs) f.1 ∙ length-append f.0 last)
          ∙ sym c.deref.ensures.value)) c.named_element.ensures.named;
    }
