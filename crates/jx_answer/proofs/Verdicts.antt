-- Verdicts on elements are the answers on them less their indexes.
use Rattle.std.proofs.Common.{◌≡◌, ℕ, List, [], ◌∷◌, map, Option, None, Some, refl, sym, ap, ◌∙◌}
use Rattle.std.specs.List.{AllZip}
use Rattle.jx_run.specs.declared.sequences.element_verdict.ElementVerdict.{ElementVerdict}
use Rattle.jx_run.specs.declared.sequences.element_verdict.ElementVerdict.TheVariants as verdict
use Rattle.jx_run.specs.declared.sequences.element_verdict.JudgedElement.{JudgedElement}
use Rattle.jx_run.specs.declared.texts.settings.Settings.{Settings}
use Rattle.jx_run.specs.Elements.{Part, part_span}
use Rattle.jx_run.specs.ElementVerdict.{IsClosedText, IsJudgedElement, IsVerdictOn}
use Rattle.jx_index.specs.ByNames.{IsJudgedBy, IsRefusedName, judged_unless}
use Rattle.jx_index.specs.Indexed.{IndexedValue}
use Rattle.jx_index.specs.Rows.{rows}
use Rattle.jx_answer.specs.declared.element.Element.{Element}
use Rattle.jx_answer.specs.declared.element.ElementAnswer.{ElementAnswer}
use Rattle.jx_answer.specs.declared.element.ElementAnswer.TheVariants as answer
use Rattle.jx_answer.specs.ByNames.{RefusesNameIn, unless_refused}
use Rattle.jx_answer.specs.Sequence.{IsElement, IsElementAnswer, judged, without_index}
use Rattle.jx_answer.specs.Settled.{IsElementBy}

-- one answer for each verdict, where each verdict has one
module _ (Verdict : Part → JudgedElement → Type 0) (Answer : Part → Element → Type 0)
    (one : (p : Part) (j : JudgedElement) → Verdict p j → (e : Element) × Answer p e × (judged e ≡ j)) where
  pub all_answered : (ps : List Part) (js : List JudgedElement) → AllZip Verdict ps js → (es : List Element) × AllZip Answer ps es × (map judged es ≡ js)
  all_answered [] [] z = ([], tt, refl)
  all_answered [] (j ∷ js) z = absurd z
  all_answered (p ∷ ps) [] z = absurd z
  all_answered (p ∷ ps) (j ∷ js) z =
      let first = one p j z.0 in
      let rest = all_answered ps js z.1 in
      (first.0 ∷ rest.0, (first.1, rest.1), ap (λ (x : JudgedElement). x ∷ map judged rest.0) first.2 ∙ ap (λ (xs : List JudgedElement). j ∷ xs) rest.2)

module _ (input : List ℕ) (p : Part) where
  -- the index of an element that is a text
  abbrev index_of : {limit : ℕ} → IsClosedText p limit → IndexedValue
  index_of text = record { text = input; span = part_span p; rows = rows text.tree }

  answer_on : (limit : ℕ) (v : ElementVerdict) → IsVerdictOn p limit v → (told : ElementAnswer) × IsElementAnswer input p limit told × (without_index told ≡ v)
  answer_on limit verdict.Unmarked h = (answer.Unmarked, h, refl)
  answer_on limit (verdict.Refused r) h = (answer.Refused r, h, refl)
  answer_on limit verdict.MayBeCut h = (answer.MayBeCut, (h.0, ((h.1).tree, (h.1).accepted, (h.1).unclosed)), refl)
  answer_on limit verdict.Accepted h = (
    answer.Accepted (index_of h.1),
    (h.0, record { tree = (h.1).tree; accepted = (h.1).accepted; closed = (h.1).closed; text = refl; span = refl; rows_are = refl }),
    refl,
  )

  -- an element's answer less its index is the verdict on it
  pub answered : (limit : ℕ) (j : JudgedElement) → IsJudgedElement limit p j → (e : Element) × IsElement input limit p e × (judged e ≡ j)
  answered limit j h =
      let a = answer_on limit j.verdict h.verdict_is in
      (record { span = j.span; answer = a.0 }, record { span_is = h.span_is; answer_is = a.1 }, ap (λ (v : ElementVerdict). record j { verdict = v }) a.2)

  -- ---- by settings

  -- an answer whose name is refused as the verdict's is
  record Named (settings : Settings) (v : ElementVerdict) (name : Option ℕ) : Type 0 where
    told : ElementAnswer
    is : IsElementAnswer input p settings.depth told
    refused : RefusesNameIn settings.names told name
    less : without_index told ≡ v

  named : (settings : Settings) (v : ElementVerdict) (name : Option ℕ) → IsVerdictOn p settings.depth v → IsRefusedName settings input p v name → Named settings v name
  named settings verdict.Unmarked name h f = record { told = answer.Unmarked; is = h; refused = f; less = refl }
  named settings (verdict.Refused r) name h f = record { told = answer.Refused r; is = h; refused = f; less = refl }
  named settings verdict.MayBeCut name h f =
      record { told = answer.MayBeCut; is = (h.0, ((h.1).tree, (h.1).accepted, (h.1).unclosed)); refused = f; less = refl }
  named settings verdict.Accepted name h f =
      record {
        told = answer.Accepted (index_of f.0);
        is = (h.0, record { tree = (f.0).tree; accepted = (f.0).accepted; closed = (f.0).closed; text = refl; span = refl; rows_are = refl });
        refused = f.1;
        less = refl;
      }

  same_unless : (name : Option ℕ) (j : JudgedElement) (told : ElementAnswer) → without_index told ≡ j.verdict
      → judged (record { span = j.span; answer = unless_refused name told }) ≡ judged_unless name j
  same_unless None j told e = ap (λ (v : ElementVerdict). record j { verdict = v }) e
  same_unless (Some at) j told e = refl

  pub answered_by : (settings : Settings) (j : JudgedElement) → IsJudgedBy settings input p j → (e : Element) × IsElementBy settings input p e × (judged e ≡ j)
  answered_by settings j h =
      let a = named settings h.told.verdict h.name h.judged.verdict_is h.refused in (
        record { span = h.told.span; answer = unless_refused h.name a.told },
        record { told = a.told; span_is = h.judged.span_is; answer_is = a.is; by_names = record { name = h.name; refused = a.refused; after_is = refl } },
        same_unless h.name h.told a.told a.less ∙ sym h.by_names,
      )
