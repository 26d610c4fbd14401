use Rattle.std.proofs.Common.{◌≡◌, ℕ, List, ◌+◌, ◌++◌, length, ap, sym, subst, ◌∙◌, append-nil, arith, refl}
use Rattle.std.specs.Prelude.{slice_range}
use Rattle.std.specs.List.{AllZip}
use Rattle.std.proofs.lemmas.List.{length-append}
use Rattle.jx_run.specs.declared.sequences.element_verdict.JudgedElement.{JudgedElement}
use Rattle.jx_run.specs.declared.texts.settings.Settings.{Settings}
use Rattle.jx_run.specs.Elements.{elements}
use Rattle.jx_run.specs.ElementVerdict.{IsJudgedElement}
use Rattle.jx_answer.specs.Named.{IsNamed}
use Rattle.jx_report.specs.declared.sequence_reader.SequenceReader.{SequenceReader}
use Rattle.jx_report.proofs.SequenceSteps.{named_longer, slice_seam, zip_both}
use Rattle.jx_report.proofs.sequence_reader.SequenceReader.pass.Goals as goal

pub returns : goal.returns
returns g c =
    let bytes = c.args.bytes.now in
    let old : SequenceReader = c.args.self.now in
    let ended : SequenceReader = c.end_element.new.self in
    let same = c.in_ok-end_element.ensures.rest in
    let before : ℕ = c.end-before.result in
    let laws = c.elements_of_two_parts.ensures in
    let place : before ≡ old.reader.start + old.reader.count = c.end-before.ensures ∙ ap (λ (s : SequenceReader). s.reader.start + s.reader.count) same in
    let start = c.reset.ensures.start in
    let none = c.reset.ensures.reads.count in
    record {
      reads = λ settings text h.
          let e = c.in_ok-end_element.ensures.judged settings text h in
          let at : before ≡ length text = place ∙ laws.reached settings.depth text h.told old.reader old.open_ended h.read in
          let rule : ended.settings ≡ settings = ap (λ (s : SequenceReader). s.settings) same ∙ h.settings_are in
          let told : List JudgedElement = c.in_ok-told.told.items in
          let more : List JudgedElement = c.in_ok-more.more.items in
          let behind : AllZip (IsJudgedElement settings.depth) (elements (length text) bytes) told =
          subst (λ (n : ℕ). AllZip (IsJudgedElement settings.depth) (elements n bytes) told) at
          (subst (λ (s : Settings). AllZip (IsJudgedElement s.depth) (elements before bytes) told) rule c.in_ok-told.ensures.elements) in
          let there : c.reset.new.self.start ≡ length text + length bytes = start ∙ ap (λ (n : ℕ). n + length bytes) at in
          record {
            settings_are = rule;
            told = e.told ++ told;
            read = laws.marked settings.depth text bytes e.told told c.reset.new.self e.ended c.requires.starts c.requires.ends behind
                (ap (λ s. s.depth) c.reset.ensures.settings ∙ ap (λ (s : SequenceReader). s.reader.settings.depth) same ∙ h.read.depth)
                (ap (λ s. s.mark) c.reset.ensures.settings ∙ ap (λ (s : SequenceReader). s.reader.settings.mark) same ∙ h.read.mark)
                there c.reset.ensures.reads;
            kept = λ rest.
                let input : List ℕ = (text ++ bytes) ++ rest in
                let stands : slice_range input before (before + length bytes) ≡ bytes =
                subst (λ (n : ℕ). slice_range input n (n + length bytes) ≡ bytes) (sym at) (slice_seam text bytes rest (length text + length bytes) refl) in
                subst (λ (xs : List JudgedElement). AllZip (IsNamed settings input) (e.told ++ told) xs) (sym c.in_ok-append.ensures.items)
                (zip_both (IsNamed settings input) e.told told ended.judged.items more (named_longer settings text bytes e.told ended.judged.items e.kept rest)
                (subst (λ (s : Settings). AllZip (IsNamed s input) told more) rule (c.in_ok-more.ensures.named input stands)));
            held = λ unique. (
              text ++ bytes,
              sym (append-nil (text ++ bytes)) ∙ ap (λ (xs : List ℕ). (text ++ bytes) ++ xs) (sym c.clear.ensures.items),
              length-append text bytes ∙ sym there,
            );
          };
      end = omega (arith, start, none, place);
      first = ap (λ (s : SequenceReader). s.first) same;
    }
