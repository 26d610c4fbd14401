-- What is held of a text for pointers is what there is to write and to tell.
use Rattle.std.specs.Prelude.{flat_map, map, string_bytes}
use Rattle.std.proofs.Common.{◌≡◌, ℕ, List, [], refl, ap, ◌∙◌}
use Rattle.jx_run.specs.declared.texts.verdict.Refusal.{Refusal}
use Rattle.jx_run.specs.declared.texts.verdict.Verdict.TheVariants.{Accepted, Refused}
use Rattle.jx_index.specs.ByNames.{IsVerdictBy}
use Rattle.jx_task.specs.declared.values_task.ValuesTask.{ValuesTask}
use Rattle.jx_words.specs.declared.pointer_answer.PointerAnswer.{PointerAnswer}
use Rattle.jx_words.specs.Answers.{AreAnswersIn}
use Rattle.jx_words.specs.Words.{line, refusal_words}
use Rattle.jx_values.specs.declared.form.Form.{Form}
use Rattle.jx_values.specs.Values.{ValuesOutput, exit_by, told_lines, value_line}
use Rattle.jx_values.specs.inside.Moved.{AllStaySame}
use Rattle.jx_values.proofs.Gathers.{lines_same, told_same}

pub holds_refused : (form : Form) (task : ValuesTask) (text bytes : List ℕ) (refusal : Refusal) (answers : List PointerAnswer) (told : List ℕ) → IsVerdictBy task.settings text (Refused refusal)
    → answers ≡ [] → told ≡ line (refusal_words refusal) → ValuesOutput form task text (flat_map (value_line form bytes) answers) told (exit_by told)
holds_refused form task text bytes refusal answers told v none is =
    record { verdict = Refused refusal; is_verdict = v; gives = record { written = ap (flat_map (value_line form bytes)) none; told = is }; ends = refl }

pub holds_found : (form : Form) (task : ValuesTask) (text bytes : List ℕ) (answers moved : List PointerAnswer) (told : List ℕ)
    → IsVerdictBy task.settings text Accepted → AreAnswersIn task.settings text (map string_bytes task.pointers.items) answers → AllStaySame text bytes answers moved
    → told ≡ told_lines form bytes (map string_bytes task.pointers.items) moved → ValuesOutput form task text (flat_map (value_line form bytes) moved) told (exit_by told)
holds_found form task text bytes answers moved told v x same is = record {
  verdict = Accepted;
  is_verdict = v;
  gives = record {
    tree = x.tree;
    is_text = x.is_text;
    answers = answers;
    are_answers = x.are_answers;
    written = lines_same text bytes form answers moved same;
    told = is ∙ told_same text bytes form (map string_bytes task.pointers.items) answers moved same;
  };
  ends = refl;
}
