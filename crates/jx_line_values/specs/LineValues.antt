-- The output and the messages for each line of JSON Lines: the values that pointers lead to in the line's text (RFC
-- 6901).
use Rattle.std.specs.Prelude.{◌≡◌, ℕ, List, [], ◌∷◌, ◌++◌, Bool, Some, Result, Ok, Err, codes, decimal, flat_map, if◌then◌else◌, map, slice_get, slice_range, string_bytes, take, unwrap_or, All}
use Rattle.std.specs.List.{AllZip}
use Rattle.jx_run.specs.declared.texts.settings.Settings.{Settings}
use Rattle.jx_run.specs.Elements.{part}
use Rattle.jx_run.specs.Text.{IsDocument}
use Rattle.jx_run.specs.Tree.{Tree}
use Rattle.jx_index.specs.declared.find_fault.FindFault.{FindFault}
use Rattle.jx_index.specs.declared.finder.Found.{Found}
use Rattle.jx_index.specs.declared.pointer.PointerFault.{PointerFault}
use Rattle.jx_index.specs.Found.{found_of}
use Rattle.jx_index.specs.Leads.{led}
use Rattle.jx_index.specs.PointerFaults.{IsFaultOf}
use Rattle.jx_index.specs.Pointers.{IsPointer, tokens}
use Rattle.jx_ndjson.specs.declared.judged_line.LineVerdict.{LineVerdict}
use Rattle.jx_ndjson.specs.declared.judged_line.LineVerdict.TheVariants.{Accepted, Refused, MayBeCut, Blank}
use Rattle.jx_ndjson.specs.Answers.{IsVerdictOn, settings_at}
use Rattle.jx_ndjson.specs.Lines as lines
use Rattle.jx_ndjson.specs.Lines.{Line, ended_lines}
use Rattle.jx_ends.specs.declared.exit.Exit.{Exit}
use Rattle.jx_ends.specs.declared.exit.Exit.TheVariants.{Good, Bad}
use Rattle.jx_words.specs.declared.pointer_answer.PointerAnswer.TheVariants.{Lost}
use Rattle.jx_words.specs.Pointers.{answer_words}
use Rattle.jx_words.specs.Showing.{shown}
use Rattle.jx_words.specs.Words.{line, refusal_words}
use Rattle.jx_line_values.specs.declared.row_form.RowForm.{RowForm}
use Rattle.jx_line_values.specs.declared.task.LineValuesTask.{LineValuesTask}
use Rattle.jx_line_values.specs.Cells.{cell, lacks_text, separator, text_cell}

abbrev pub pointers_of : LineValuesTask → List (List ℕ)
pointers_of task = map string_bytes task.pointers.items

-- ---- of one value

-- the bytes in place of a value where there is none
abbrev pub none_word : LineValuesTask → List ℕ
none_word task = string_bytes task.none

-- the cell of what a pointer leads to in a line, or that word
abbrev pub value_bytes : LineValuesTask → List ℕ → Result Found FindFault → List ℕ
value_bytes task bytes (Ok found) = unwrap_or (cell task.form (none_word task) found.kind (slice_range bytes found.span.start found.span.end)) (none_word task)
value_bytes task bytes (Err fault) = none_word task

-- line N: WORDS
abbrev pub told_words : ℕ → List ℕ → List ℕ
told_words number words = codes "line " ++ decimal number ++ codes ": " ++ line words

-- line N: POINTER: WORDS, where the pointer leads nowhere, or to a string that lacks a text that is asked for
abbrev pub told_of_found : RowForm → ℕ → List ℕ → List ℕ → Result Found FindFault → List ℕ
told_of_found form number bytes pointer (Ok found) =
    if lacks_text form found.kind (slice_range bytes found.span.start found.span.end) then told_words number (shown pointer ++ codes ": " ++ codes "half a surrogate pair") else []
told_of_found form number bytes pointer (Err fault) = told_words number (shown pointer ++ codes ": " ++ answer_words (Lost fault))

-- ---- of one line

-- one after another, a byte between
abbrev pub joined : ℕ → List (List ℕ) → List ℕ
joined between [] = []
joined between (value ∷ values) = value ++ flat_map (λ (more : List ℕ). between ∷ more) values

-- a cell for each pointer, and a line feed
abbrev pub row_of : LineValuesTask → (List ℕ → List ℕ) → List ℕ
row_of task cell_for = line (joined (separator task.form) (map cell_for (pointers_of task)))

-- the output for a line, and the messages on it
pub record LineGiven : Type 0 where
  pub written : List ℕ
  pub told : List ℕ

-- for a line that is a text with this tree: its values, and for which pointers there is none
abbrev pub values_given : LineValuesTask → ℕ → List ℕ → Tree → LineGiven
values_given task number bytes tree =
    record {
      written = row_of task (λ (pointer : List ℕ). value_bytes task bytes (found_of (led bytes tree (tokens pointer))));
      told = flat_map (λ (pointer : List ℕ). told_of_found task.form number bytes pointer (found_of (led bytes tree (tokens pointer)))) (pointers_of task);
    }

-- for any other line: no value for any pointer, and why
abbrev pub none_given : LineValuesTask → List ℕ → LineGiven
none_given task told = record { written = row_of task (λ (pointer : List ℕ). none_word task); told = told }

-- why there is none; of an empty line that may be skipped there is no message
abbrev pub told_of_verdict : Bool → ℕ → LineVerdict → List ℕ
told_of_verdict skips number Accepted = []
told_of_verdict skips number (Refused refusal) = told_words number (refusal_words refusal)
told_of_verdict skips number MayBeCut = told_words number (codes "may be cut")
told_of_verdict skips number Blank = if skips then [] else told_words number (codes "blank")

abbrev pub GivesBy : LineValuesTask → Line → LineVerdict → LineGiven → Type 0
GivesBy task l Accepted given = (tree : Tree) × IsDocument 0 l.part.bytes task.settings.depth tree × (given ≡ values_given task l.number l.part.bytes tree)
GivesBy task l (Refused refusal) given = given ≡ none_given task (told_of_verdict task.skips_blank l.number (Refused refusal))
GivesBy task l MayBeCut given = given ≡ none_given task (told_of_verdict task.skips_blank l.number MayBeCut)
GivesBy task l Blank given = given ≡ none_given task (told_of_verdict task.skips_blank l.number Blank)

-- a line by itself: its first byte has the offset 0
abbrev pub alone : Line → Line
alone l = lines.line l.number (part 0 l.part.bytes) l.is_ended

-- by the verdict on the line by itself, by such settings
pub record IsGivenBy (settings : Settings) (task : LineValuesTask) (l : Line) (given : LineGiven) : Type 0 where
  pub verdict : LineVerdict
  pub is_verdict : IsVerdictOn (alone l) settings verdict
  pub gives : GivesBy task l verdict given

-- an ignored byte order mark may stand in front of the first line alone
abbrev pub IsGiven : LineValuesTask → Line → LineGiven → Type 0
IsGiven task l given = IsGivenBy (settings_at task.settings l.part.at) task l given

-- ---- of an input

abbrev pub all_written : List LineGiven → List ℕ
all_written given = flat_map (λ (g : LineGiven). g.written) given

abbrev pub all_told : List LineGiven → List ℕ
all_told given = flat_map (λ (g : LineGiven). g.told) given

-- good where there is no message
abbrev pub exit_by : List ℕ → Exit
exit_by [] = Good
exit_by (byte ∷ tells) = Bad

-- the output that is due of the bytes of an input: for each line that a line feed ends, in order
pub record IsDue (task : LineValuesTask) (input output tells : List ℕ) : Type 0 where
  pub given : List LineGiven
  pub are_given : AllZip (IsGiven task) (ended_lines task.settings.mark input) given
  pub written : output ≡ all_written given
  pub told : tells ≡ all_told given

-- the whole output for an input, all messages on it, and the status: for each line, in order
pub record LineValuesOutput (task : LineValuesTask) (input output tells : List ℕ) (exit : Exit) : Type 0 where
  pub given : List LineGiven
  pub are_given : AllZip (IsGiven task) (lines.lines task.settings.mark input) given
  pub written : output ≡ all_written given
  pub told : tells ≡ all_told given
  pub ends : exit ≡ exit_by tells

-- the first line of a table: the pointers as they were given, each as the cell of a text
abbrev pub header : LineValuesTask → List ℕ
header task = row_of task (text_cell task.form (none_word task))

-- ---- of pointers

-- the word is the first of these that is no pointer, for this reason
pub record IsMisspelt (spelt : List (List ℕ)) (word : List ℕ) (fault : PointerFault) : Type 0 where
  pub place : ℕ
  pub there : slice_get spelt place ≡ Some word
  pub why : IsFaultOf word fault
  pub first : All IsPointer (take place spelt)
