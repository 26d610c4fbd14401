-- The output for the elements of a text sequence.
use Rattle.std.proofs.Common.{◌≡◌, ℕ, List, [], ◌∷◌, ◌++◌, map, refl, sym, ap, ◌∙◌}
use Rattle.jx_run.specs.declared.texts.settings.Settings.{Settings}
use Rattle.jx_index.specs.ByNames.{AreJudgedBy, IsJudgedBy}
use Rattle.jx_answer.specs.Settled.{IsElementBy}
use Rattle.jx_answer.specs.declared.element.Element.{Element}
use Rattle.jx_answer.specs.Sequence.{judged}
use Rattle.jx_answer.proofs.Verdicts.{all_answered, answered_by}
use Rattle.jx_run.specs.declared.sequences.element_verdict.JudgedElement.{JudgedElement}
use Rattle.jx_run.specs.MarkAlone.{elements_by}
use Rattle.jx_task.specs.declared.task.Task.TheVariants.{Seq}
use Rattle.jx_ends.specs.declared.exit.Exit.{Exit}
use Rattle.jx_ends.specs.declared.exit.Exit.TheVariants.{Good}
use Rattle.jx_report.specs.Elements.{element_lines, exit_past, exit_past_all, exit_past_judged, judged_line, judged_lines}
use Rattle.jx_report.specs.Output.{Output}

-- ---- elements

lines_same : (es : List Element) → element_lines es ≡ judged_lines (map judged es)
unfolding element_lines judged_lines
lines_same [] = refl
lines_same (e ∷ es) = ap (λ xs. judged_line (judged e) ++ xs) (lines_same es)

exits_same : (exit : Exit) (es : List Element) → exit_past_all exit es ≡ exit_past_judged exit (map judged es)
unfolding exit_past_all exit_past_judged
exits_same exit [] = refl
exits_same exit (e ∷ es) = exits_same (exit_past exit e.answer) es

pub judged_output : (text : List ℕ) (settings : Settings) (js : List JudgedElement) → AreJudgedBy settings text js
    → Output Seq settings text (judged_lines js) (exit_past_judged Good js)
judged_output text settings js h =
    let a = all_answered (IsJudgedBy settings text) (IsElementBy settings text) (λ p j. answered_by text p settings j) (elements_by settings.mark text) js h in (
      a.0,
      a.1,
      (ap judged_lines (sym a.2) ∙ sym (lines_same a.0), ap (exit_past_judged Good) (sym a.2) ∙ sym (exits_same Good a.0)),
    )
