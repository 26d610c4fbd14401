-- A teller of elements takes bytes, and tells the end.
use Rattle.std.proofs.Common.{◌≡◌, ℕ, map, List, [], ◌∷◌, ◌++◌, Bool, true, false, None, refl, sym, ap, subst, ◌∙◌, append_assoc, append-nil}
use Rattle.std.specs.List.{AllZip}
use Rattle.std.specs.Prelude.{flat_map}
use Rattle.std.proofs.lemmas.Grind.{flat_map-append}
use Rattle.jx_run.specs.declared.sequences.element_verdict.ElementVerdict.{ElementVerdict}
use Rattle.jx_run.specs.declared.sequences.element_verdict.ElementVerdict.TheVariants as element
use Rattle.jx_run.specs.declared.sequences.element_verdict.JudgedElement.{JudgedElement}
use Rattle.jx_run.specs.declared.texts.settings.NameRule.{NameRule}
use Rattle.jx_run.specs.declared.texts.settings.NameRule.TheVariants.{Any}
use Rattle.jx_run.specs.declared.texts.settings.Settings.{Settings}
use Rattle.jx_run.specs.Elements.{Part}
use Rattle.jx_run.specs.ElementVerdict.{IsJudgedElement, IsVerdictOn}
use Rattle.jx_run.specs.MarkAlone.{elements_by}
use Rattle.jx_index.specs.ByNames.{AreJudgedBy, IsJudgedBy, IsRefusedName, RefusesName}
use Rattle.jx_index.specs.Rows.{rows}
use Rattle.jx_answer.specs.declared.element.Element.{Element}
use Rattle.jx_answer.specs.Sequence.{judged}
use Rattle.jx_answer.specs.Settled.{IsElementBy}
use Rattle.jx_answer.proofs.Verdicts.{all_answered, answered_by}
use Rattle.jx_task.specs.declared.task.Task.TheVariants.{Seq}
use Rattle.jx_ndjson.specs.ElementReading.{AreJudgedElements, ElementReaderValue, HasToldElements}
use Rattle.jx_ndjson.specs.Elements.{ended_elements}
use Rattle.jx_ends.specs.declared.exit.Exit.{Exit}
use Rattle.jx_ends.specs.declared.exit.Exit.TheVariants.{Good}
use Rattle.jx_report.specs.Elements.{element_lines, exit_past, exit_past_all, exit_past_judged, exit_past_verdict, judged_line, judged_lines}
use Rattle.jx_report.specs.Output.{Output}
use Rattle.jx_words.specs.Verdicts.{shown_output}
use Rattle.jx_ndjson_report.specs.declared.task.ElementsTask.{ElementsTask}
use Rattle.jx_ndjson_report.specs.Elements.{ElementsOutput, IsDue, element_line, lines_of}
use Rattle.jx_ndjson_report.specs.inside.ElementTeller.{ElementTellerValue, HasTaken, one_line}

-- ---- one element more

one_more_line : (task : ElementsTask) (answers : List JudgedElement) (j : JudgedElement) → lines_of task (answers ++ j ∷ []) ≡ lines_of task answers ++ one_line task j
one_more_line task answers j = pick task.is_quiet
  where
    front : List ℕ
    front = task.front.items

    pick : (q : Bool) → shown_output q (flat_map (element_line front) (answers ++ j ∷ [])) ≡ shown_output q (flat_map (element_line front) answers) ++ shown_output q (element_line front j)
    pick true = refl
    pick false =
        flat_map-append (element_line front) answers (j ∷ [])
        ∙ ap (λ (xs : List ℕ). flat_map (element_line front) answers ++ xs) (append-nil (element_line front j))

one_more_exit : (exit : Exit) (answers : List JudgedElement) (j : JudgedElement) → exit_past_judged exit (answers ++ j ∷ []) ≡ exit_past_verdict (exit_past_judged exit answers) j.verdict
unfolding exit_past_judged
one_more_exit exit [] j = refl
one_more_exit exit (a ∷ answers) j = one_more_exit (exit_past_verdict exit a.verdict) answers j

no_lines : (task : ElementsTask) → lines_of task [] ≡ []
no_lines task = pick task.is_quiet
  where
    pick : (q : Bool) → shown_output q [] ≡ []
    pick true = refl
    pick false = refl

no_exit : (exit : Exit) → exit_past_judged exit [] ≡ exit
unfolding exit_past_judged
no_exit exit = refl

-- ---- a teller takes bytes

-- before the first
pub element_taken_none : (task : ElementsTask) (t : ElementTellerValue) → HasToldElements task.settings [] [] t.elements → t.exit ≡ Good → t.ready ≡ [] → HasTaken task [] [] t
element_taken_none task t told good none = record { answers = []; told = told; ends = good ∙ sym (no_exit Good); written = none ∙ sym (no_lines task) }

-- that end no element
pub element_takes_none : (task : ElementsTask) (bytes more given : List ℕ) (old new : ElementTellerValue) → HasTaken task bytes given old → new.exit ≡ old.exit → new.ready ≡ old.ready
    → ((settings : Settings) (input : List ℕ) (told : List JudgedElement) → HasToldElements settings input told old.elements → HasToldElements settings (input ++ more) (told ++ []) new.elements)
    → HasTaken task (bytes ++ more) given new
element_takes_none task bytes more given old new h exit ready reads =
    record {
      answers = h.answers;
      told = subst (λ (js : List JudgedElement). HasToldElements task.settings (bytes ++ more) js new.elements) (append-nil h.answers) (reads task.settings bytes h.answers h.told);
      ends = exit ∙ h.ends;
      written = ap (λ (xs : List ℕ). given ++ xs) ready ∙ h.written;
    }

-- that end one
pub element_takes_one : (task : ElementsTask) (bytes more given : List ℕ) (j : JudgedElement) (old new : ElementTellerValue) → HasTaken task bytes given old
    → new.exit ≡ exit_past_verdict old.exit j.verdict → new.ready ≡ old.ready ++ one_line task j
    → ((settings : Settings) (input : List ℕ) (told : List JudgedElement) → HasToldElements settings input told old.elements → HasToldElements settings (input ++ more) (told ++ j ∷ []) new.elements)
    → HasTaken task (bytes ++ more) given new
element_takes_one task bytes more given j old new h exit ready reads =
    record {
      answers = h.answers ++ j ∷ [];
      told = reads task.settings bytes h.answers h.told;
      ends = exit ∙ ap (λ (x : Exit). exit_past_verdict x j.verdict) h.ends ∙ sym (one_more_exit Good h.answers j);
      written =
          ap (λ (xs : List ℕ). given ++ xs) ready
          ∙ sym (append_assoc given old.ready (one_line task j))
          ∙ ap (λ (xs : List ℕ). xs ++ one_line task j) h.written
          ∙ sym (one_more_line task h.answers j);
    }

-- what waits was written
pub element_gives : (task : ElementsTask) (bytes given : List ℕ) (old new : ElementTellerValue) → HasTaken task bytes given old → new.elements ≡ old.elements → new.exit ≡ old.exit → new.ready ≡ []
    → HasTaken task bytes (given ++ old.ready) new
element_gives task bytes given old new h same exit none =
    record {
      answers = h.answers;
      told = subst (λ (r : ElementReaderValue). HasToldElements task.settings bytes h.answers r) (sym same) h.told;
      ends = exit ∙ h.ends;
      written = ap (λ (xs : List ℕ). (given ++ old.ready) ++ xs) none ∙ append-nil (given ++ old.ready) ∙ h.written;
    }

pub due : ((settings : Settings) (input : List ℕ) (told : List JudgedElement) (r : ElementReaderValue) → HasToldElements settings input told r → AllZip (IsJudgedElement settings.depth) (ended_elements settings.mark input) told)
    → (task : ElementsTask) (bytes given : List ℕ) (t : ElementTellerValue) → HasTaken task bytes given t → IsDue task bytes (given ++ t.ready)
due law task bytes given t h = record { answers = h.answers; are_answers = law task.settings bytes h.answers t.elements h.told; written = h.written }

-- ---- the end

-- without a last element
pub element_ends_so : (task : ElementsTask) (bytes given ready : List ℕ) (old : ElementTellerValue) (exit : Exit) → HasTaken task bytes given old
    → ((settings : Settings) (input : List ℕ) (told : List JudgedElement) → HasToldElements settings input told old.elements → AreJudgedElements settings input (told ++ []))
    → ready ≡ old.ready → exit ≡ old.exit → ElementsOutput task bytes (given ++ ready) exit
element_ends_so task bytes given ready old exit h last same e =
    record {
      answers = h.answers;
      are_answers = subst (λ (js : List JudgedElement). AreJudgedElements task.settings bytes js) (append-nil h.answers) (last task.settings bytes h.answers h.told);
      written = ap (λ (xs : List ℕ). given ++ xs) same ∙ h.written;
      ends = e ∙ h.ends;
    }

-- with one
pub element_ends_with : (task : ElementsTask) (bytes given ready : List ℕ) (j : JudgedElement) (old : ElementTellerValue) (exit : Exit) → HasTaken task bytes given old
    → ((settings : Settings) (input : List ℕ) (told : List JudgedElement) → HasToldElements settings input told old.elements → AreJudgedElements settings input (told ++ j ∷ []))
    → ready ≡ old.ready ++ one_line task j → exit ≡ exit_past_verdict old.exit j.verdict → ElementsOutput task bytes (given ++ ready) exit
element_ends_with task bytes given ready j old exit h last same e =
    record {
      answers = h.answers ++ j ∷ [];
      are_answers = last task.settings bytes h.answers h.told;
      written =
          ap (λ (xs : List ℕ). given ++ xs) same
          ∙ sym (append_assoc given old.ready (one_line task j))
          ∙ ap (λ (xs : List ℕ). xs ++ one_line task j) h.written
          ∙ sym (one_more_line task h.answers j);
      ends = e ∙ ap (λ (x : Exit). exit_past_verdict x j.verdict) h.ends ∙ sym (one_more_exit Good h.answers j);
    }

-- ---- the output of a report on the sequence

not_refused : (settings : Settings) (input : List ℕ) (p : Part) (v : ElementVerdict) → settings.names ≡ Any → IsVerdictOn p settings.depth v → IsRefusedName settings input p v None
not_refused settings input p element.Accepted any h = (h.1, subst (λ (n : NameRule). RefusesName n input (rows h.1.tree) None) (sym any) refl)
not_refused settings input p (element.Refused refusal) any h = refl
not_refused settings input p element.MayBeCut any h = refl
not_refused settings input p element.Unmarked any h = refl

pub by_names : (settings : Settings) (input : List ℕ) → settings.names ≡ Any → (ps : List Part) (js : List JudgedElement) → AllZip (IsJudgedElement settings.depth) ps js → AllZip (IsJudgedBy settings input) ps js
by_names settings input any [] [] h = tt
by_names settings input any [] (j ∷ js) h = absurd h
by_names settings input any (p ∷ ps) [] h = absurd h
by_names settings input any (p ∷ ps) (j ∷ js) h = (
  record { told = j; judged = h.0; name = None; refused = not_refused settings input p j.verdict any h.0.verdict_is; by_names = refl },
  by_names settings input any ps js h.1,
)

pub same_lines : (js : List JudgedElement) → flat_map (element_line []) js ≡ judged_lines js
unfolding judged_lines
same_lines [] = refl
same_lines (j ∷ js) = ap (λ (xs : List ℕ). judged_line j ++ xs) (same_lines js)

lines_same : (es : List Element) → element_lines es ≡ judged_lines (map judged es)
unfolding element_lines judged_lines
lines_same [] = refl
lines_same (e ∷ es) = ap (λ (xs : List ℕ). judged_line (judged e) ++ xs) (lines_same es)

exits_same : (exit : Exit) (es : List Element) → exit_past_all exit es ≡ exit_past_judged exit (map judged es)
unfolding exit_past_all exit_past_judged
exits_same exit [] = refl
exits_same exit (e ∷ es) = exits_same (exit_past exit e.answer) es

pub judged_output : (input : List ℕ) (settings : Settings) (js : List JudgedElement) → AreJudgedBy settings input js → Output Seq settings input (judged_lines js) (exit_past_judged Good js)
judged_output input settings js h =
    let a = all_answered (IsJudgedBy settings input) (IsElementBy settings input) (λ p j. answered_by input p settings j) (elements_by settings.mark input) js h in (
      a.0,
      a.1,
      (ap judged_lines (sym a.2) ∙ sym (lines_same a.0), ap (exit_past_judged Good) (sym a.2) ∙ sym (exits_same Good a.0)),
    )

pub as_by_seq : (task : ElementsTask) (input output : List ℕ) (exit : Exit) → task.settings.names ≡ Any → task.front.items ≡ [] → task.is_quiet ≡ false → ElementsOutput task input output exit
    → Output Seq task.settings input output exit
as_by_seq task input output exit any front loud h =
    let lines : lines_of task h.answers ≡ judged_lines h.answers =
    ap (λ (q : Bool). shown_output q (flat_map (element_line task.front.items) h.answers)) loud
    ∙ ap (λ (f : List ℕ). flat_map (element_line f) h.answers) front
    ∙ same_lines h.answers in
    let all : Output Seq task.settings input (judged_lines h.answers) (exit_past_judged Good h.answers) =
    judged_output input task.settings h.answers (by_names task.settings input any (elements_by task.settings.mark input) h.answers h.are_answers) in
    subst (λ (x : Exit). Output Seq task.settings input output x) (sym h.ends)
    (subst (λ (xs : List ℕ). Output Seq task.settings input xs (exit_past_judged Good h.answers)) (sym (h.written ∙ lines)) all)
