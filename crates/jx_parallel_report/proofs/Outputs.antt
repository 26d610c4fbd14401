-- The output of `check`, by the verdict, and of `seq`, by those on the elements.
use Rattle.std.proofs.Common.{◌≡◌, ℕ, List, sym, subst}
use Rattle.std.specs.Prelude.{Result, Ok, Err, IfOk, IfErr, flat_map, []}
use Rattle.std.specs.List.{AllZip}
use Rattle.jx_ends.specs.declared.exit.Exit.{Exit}
use Rattle.jx_ends.specs.declared.exit.Exit.TheVariants.{Good}
use Rattle.jx_index.specs.ByNames.{IsVerdictBy}
use Rattle.jx_run.specs.declared.sequences.element_verdict.JudgedElement.{JudgedElement}
use Rattle.jx_run.specs.declared.texts.settings.FrontMark.{FrontMark}
use Rattle.jx_run.specs.declared.texts.settings.FrontMark.TheVariants.{Refused}
use Rattle.jx_run.specs.declared.texts.settings.NameRule.TheVariants.{Any}
use Rattle.jx_run.specs.Elements.{elements}
use Rattle.jx_run.specs.ElementVerdict.{IsJudgedElement}
use Rattle.jx_run.specs.MarkAlone.{elements_by}
use Rattle.jx_run.specs.declared.texts.settings.Settings.{Settings}
use Rattle.jx_run.specs.declared.texts.verdict.Verdict.{Verdict}
use Rattle.jx_task.specs.declared.task.Task.{Task}
use Rattle.jx_task.specs.declared.task.Task.TheVariants.{Check, Seq}
use Rattle.jx_words.specs.Verdicts.{ByVerdict, SaysAccepted}
use Rattle.jx_report.specs.Elements.{exit_past_judged}
use Rattle.jx_report.specs.Output.{Output}
use Rattle.jx_ndjson_report.specs.Elements.{element_line}
use Rattle.jx_ndjson_report.proofs.ElementTakes.{by_names, judged_output, same_lines}
use Rattle.jx_drive_at.specs.ReportsAt.{FailsBy}
use Rattle.jx_drive_at.specs.declared.report_at_fault.ReportAtFault.{ReportAtFault}
use Rattle.jx_drive_at.specs.declared.report_at_fault.ReportAtFault.TheVariants.{Memory, Read, Write}

-- what holds where a call gives Ok, and what follows from it
pub carried : {T E : Type 0} (A B : T → Type 0) (result : Result T E) → IfOk result A → ((x : T) → A x → B x) → IfOk result B
carried A B (Ok x) holds goes = goes x holds
carried A B (Err e) holds goes = holds

pub output_of_verdict : (task : Task) (settings : Settings) (text : List ℕ) (verdict : Verdict) (output : List ℕ) (exit : Exit) → task ≡ Check
    → IsVerdictBy settings text verdict → ByVerdict SaysAccepted verdict output exit → Output task settings text output exit
output_of_verdict task settings text verdict output exit is judged says =
    subst (λ (t : Task). Output t settings text output exit) (sym is) (verdict, judged, says)

-- what never fails by a read fails by it only for any such reason
pub unread : {T E : Type 0} (may_fail : E → Type 0) (result : Result T (ReportAtFault E)) → IfErr result (FailsBy (λ _. ⊥)) → IfErr result (FailsBy may_fail)
unread may_fail (Ok x) never = never
unread may_fail (Err Memory) never = never
unread may_fail (Err (Read reason)) never = absurd never
unread may_fail (Err Write) never = never

pub output_of_elements : (task : Task) (settings : Settings) (text : List ℕ) (js : List JudgedElement) (exit : Exit) → task ≡ Seq → settings.names ≡ Any → settings.mark ≡ Refused
    → AllZip (IsJudgedElement settings.depth) (elements 0 text) js → exit ≡ exit_past_judged Good js → Output task settings text (flat_map (element_line []) js) exit
output_of_elements task settings text js exit is any refused are ends =
    let by : AllZip (IsJudgedElement settings.depth) (elements_by settings.mark text) js = subst (λ (m : FrontMark). AllZip (IsJudgedElement settings.depth) (elements_by m text) js) (sym refused) are in
    let all : Output Seq settings text (flat_map (element_line []) js) (exit_past_judged Good js) =
    subst (λ (xs : List ℕ). Output Seq settings text xs (exit_past_judged Good js)) (sym (same_lines js))
    (judged_output text settings js (by_names settings text any (elements_by settings.mark text) js by)) in
    subst (λ (t : Task). Output t settings text (flat_map (element_line []) js) exit) (sym is)
    (subst (λ (e : Exit). Output Seq settings text (flat_map (element_line []) js) e) (sym ends) all)
