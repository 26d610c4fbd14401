-- The lines that are written and reported for pointers into a text (RFC 6901).
use Rattle.std.specs.Prelude.{◌≡◌, ℕ, Bool, true, false, ◌&&◌, List, [], ◌∷◌, ◌++◌, Option, Some, None, codes, flat_map, if◌then◌else◌, map, slice_range, string_bytes, unwrap_or}
use Rattle.std.specs.List.{AllZip}
use Rattle.jx_lex.specs.declared.kind.Kind.{Kind}
use Rattle.jx_lex.specs.declared.kind.Kind.TheVariants.{Object, Array, String, Number, True, False, Null}
use Rattle.jx_run.specs.declared.texts.verdict.Refusal.{Refusal}
use Rattle.jx_run.specs.declared.texts.verdict.Verdict.{Verdict}
use Rattle.jx_run.specs.declared.texts.verdict.Verdict.TheVariants.{Accepted, Refused}
use Rattle.jx_run.specs.Settings.{IsDocumentBy}
use Rattle.jx_run.specs.Tree.{Tree}
use Rattle.jx_index.specs.ByNames.{IsVerdictBy}
use Rattle.jx_string.specs.Texts.{text_of}
use Rattle.jx_compact.specs.Compact.{compact}
use Rattle.jx_task.specs.declared.values_task.ValuesTask.{ValuesTask}
use Rattle.jx_ends.specs.declared.exit.Exit.{Exit}
use Rattle.jx_ends.specs.declared.exit.Exit.TheVariants.{Good, Bad}
use Rattle.jx_words.specs.declared.pointer_answer.PointerAnswer.{PointerAnswer}
use Rattle.jx_words.specs.declared.pointer_answer.PointerAnswer.TheVariants.{Found, Unread, Lost}
use Rattle.jx_words.specs.Pointers.{IsAnswerTo, answer_words}
use Rattle.jx_words.specs.Showing.{shown}
use Rattle.jx_words.specs.Words.{line, refusal_words}
use Rattle.jx_values.specs.declared.form.Form.{Form}

-- ---- of one value

-- its bytes, or their compact form
abbrev pub formed : Form → List ℕ → List ℕ
formed form bytes = if form.is_compact then compact bytes else bytes

abbrev pub is_string : Kind → Bool
is_string Object = false
is_string Array = false
is_string String = true
is_string Number = false
is_string True = false
is_string False = false
is_string Null = false

-- the bytes that are written for it: where texts are asked for, of a string its text, if it has one
abbrev pub value_written : Form → Kind → List ℕ → Option (List ℕ)
value_written form kind bytes = if form.is_raw && is_string kind then text_of bytes else Some (formed form bytes)

-- ---- of one pointer

-- the bytes that are written for it in a text; none where it has no value, or a string without a text
abbrev pub written : Form → List ℕ → PointerAnswer → Option (List ℕ)
written form text (Found kind span) = value_written form kind (slice_range text span.start span.end)
written form text (Unread fault) = None
written form text (Lost fault) = None

abbrev pub value_line : Form → List ℕ → PointerAnswer → List ℕ
value_line form text answer = line (unwrap_or (written form text answer) [])

-- a pointer as it is shown: one without a byte, which leads to the whole text, as two quotation marks
abbrev pub shown_pointer : List ℕ → List ℕ
shown_pointer [] = codes "''"
shown_pointer (byte ∷ bytes) = shown (byte ∷ bytes)

-- POINTER: WORDS
abbrev pub told_words : List ℕ → List ℕ → List ℕ
told_words pointer words = shown_pointer pointer ++ codes ": " ++ line words

-- the report on a value by what is written for it
abbrev pub told_of_value : List ℕ → Option (List ℕ) → List ℕ
told_of_value pointer (Some bytes) = []
told_of_value pointer None = told_words pointer (codes "half a surrogate pair")

-- the report on a pointer: nothing where something is written for it, or why nothing is
abbrev pub told_line : Form → List ℕ → List ℕ → PointerAnswer → List ℕ
told_line form text pointer (Found kind span) = told_of_value pointer (written form text (Found kind span))
told_line form text pointer (Unread fault) = told_words pointer (answer_words (Unread fault))
told_line form text pointer (Lost fault) = told_words pointer (answer_words (Lost fault))

-- ---- of all

-- the same of each, in their order
abbrev pub told_lines : Form → List ℕ → List (List ℕ) → List PointerAnswer → List ℕ
told_lines form text [] answers = []
told_lines form text (pointer ∷ pointers) [] = []
told_lines form text (pointer ∷ pointers) (answer ∷ answers) = told_line form text pointer answer ++ told_lines form text pointers answers

-- good where nothing is reported
abbrev pub exit_by : List ℕ → Exit
exit_by [] = Good
exit_by (byte ∷ tells) = Bad

-- for a text: a line for each pointer is written, and the report on those for which nothing is written
pub record GivesValues (form : Form) (task : ValuesTask) (text output tells : List ℕ) : Type 0 where
  pub tree : Tree
  pub is_text : IsDocumentBy task.settings 0 text tree
  pub answers : List PointerAnswer
  pub are_answers : AllZip (IsAnswerTo text tree) (map string_bytes task.pointers.items) answers
  pub written : output ≡ flat_map (value_line form text) answers
  pub told : tells ≡ told_lines form text (map string_bytes task.pointers.items) answers

-- for what is refused: nothing is written, and the verdict is reported
pub record GivesNone (refusal : Refusal) (output tells : List ℕ) : Type 0 where
  pub written : output ≡ []
  pub told : tells ≡ line (refusal_words refusal)

abbrev pub GivesByVerdict : Form → ValuesTask → List ℕ → Verdict → List ℕ → List ℕ → Type 0
GivesByVerdict form task input Accepted output tells = GivesValues form task input output tells
GivesByVerdict form task input (Refused refusal) output tells = GivesNone refusal output tells

-- the whole output for an input, all that is reported of it, and the status
pub record ValuesOutput (form : Form) (task : ValuesTask) (input output tells : List ℕ) (exit : Exit) : Type 0 where
  pub verdict : Verdict
  pub is_verdict : IsVerdictBy task.settings input verdict
  pub gives : GivesByVerdict form task input verdict output tells
  pub ends : exit ≡ exit_by tells
