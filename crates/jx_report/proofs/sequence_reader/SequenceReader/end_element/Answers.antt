use Rattle.std.proofs.Common.{◌≡◌, List, [], ◌∷◌, ◌+◌, ◌++◌, Option, None, Some, ap, sym, subst, ◌∙◌, append-nil}
use Rattle.std.specs.List.{AllZip}
use Rattle.jx_summary.specs.declared.span.Span.{Span}
use Rattle.jx_run.specs.declared.sequences.element_verdict.JudgedElement.{JudgedElement}
use Rattle.jx_run.specs.declared.texts.settings.Settings.{Settings}
use Rattle.jx_run.specs.Elements.{elements}
use Rattle.jx_run.specs.ElementVerdict.{IsJudgedElement}
use Rattle.jx_run.specs.SequenceRead.{ended_there, listed}
use Rattle.jx_run.specs.Tree.{span}
use Rattle.jx_answer.specs.Named.{IsNamed}
use Rattle.jx_report.proofs.SequenceSteps.{ended_span, zip_both}
use Rattle.jx_report.proofs.sequence_reader.SequenceReader.end_element.Goals as goal

pub returns-in-None-clause-judged : goal.returns-in-None-clause-judged
returns-in-None-clause-judged c = λ settings text h.
    let old = c.args.self.now in
    let reader = old.reader in
    let none : ended_there (span reader.start (reader.start + reader.count)) c.verdict.result old.open_ended ≡ None = cc in
    let all = c.elements_of_two_parts.ensures.ended settings.depth text h.told reader old.open_ended c.verdict.result h.read c.verdict.ensures.verdict in
    record {
      told = h.told;
      ended = subst (λ (xs : List JudgedElement). AllZip (IsJudgedElement settings.depth) (elements 0 text) xs) (append-nil h.told)
          (subst (λ (o : Option JudgedElement). AllZip (IsJudgedElement settings.depth) (elements 0 text) (h.told ++ listed o)) none all);
      kept = h.kept;
    }

pub returns-in_ok-push-in-Some-clause-judged : goal.returns-in_ok-push-in-Some-clause-judged
returns-in_ok-push-in-Some-clause-judged c = λ settings text h.
    let old = c.args.self.now in
    let reader = old.reader in
    let x : JudgedElement = c.in-Some.element in
    let y : JudgedElement = c.in_ok-named-in-Some.named in
    let s : Span = span reader.start (reader.start + reader.count) in
    let one : ended_there s c.verdict.result old.open_ended ≡ Some x = cc in
    let place : x.span ≡ s = ended_span s c.verdict.result old.open_ended x one in
    let laws = c.elements_of_two_parts.ensures in
    let reached = laws.reached settings.depth text h.told reader old.open_ended h.read in
    let all = laws.ended settings.depth text h.told reader old.open_ended c.verdict.result h.read c.verdict.ensures.verdict in
    record {
      told = h.told ++ x ∷ [];
      ended = subst (λ (o : Option JudgedElement). AllZip (IsJudgedElement settings.depth) (elements 0 text) (h.told ++ listed o)) one all;
      kept = λ rest.
          let named = c.in_ok-named-in-Some.ensures.named text rest h.held (ap (λ (p : Span). p.start) place) (ap (λ (p : Span). p.end) place ∙ reached) in
          subst (λ (xs : List JudgedElement). AllZip (IsNamed settings (text ++ rest)) (h.told ++ x ∷ []) xs) (sym c.in_ok-push-in-Some.ensures.items)
          (zip_both (IsNamed settings (text ++ rest)) h.told (x ∷ []) old.judged.items (y ∷ []) (h.kept rest)
          (subst (λ (rule : Settings). IsNamed rule (text ++ rest) x y) h.settings_are named, tt));
    }
