-- The bytes kept of a text that is read batch by batch, for the pointers that are looked up in it.
use Rattle.std.specs.Prelude.{◌≡◌, ℕ, ◌≤◌, List, ◌++◌, All, Option, drop, flat_map, length}
use Rattle.std.specs.Io.KnownBytes.{Consumes}
use Rattle.jx_run.specs.declared.texts.settings.Settings.{Settings}
use Rattle.jx_find.specs.Finder.{HasFed}
use Rattle.jx_task.specs.declared.values_task.ValuesTask.{ValuesTask}
use Rattle.jx_ends.specs.Ends.{ReadsToEnd}
use Rattle.jx_report.specs.Reports.{IsAnswered}
use Rattle.jx_words.specs.inside.ReadPointers.{AreReadPointers}
use Rattle.jx_values.specs.declared.form.Form.{Form}
use Rattle.jx_values.specs.declared.kept.Kept.{Kept}
use Rattle.jx_values.specs.declared.reply.Held.{Held}
use Rattle.jx_values.specs.declared.value_reader.ValuesReader.{ValuesReader}
use Rattle.jx_values.specs.Values.{ValuesOutput, exit_by, value_line}

-- these bytes stand in the text from an offset on
pub record IsKept (text : List ℕ) (from : ℕ) (bytes : List ℕ) : Type 0 where
  pub within : from ≤ length text
  pub rest : List ℕ
  pub whole : drop from text ≡ bytes ++ rest

abbrev pub IsKeptOf : List ℕ → Kept → Type 0
IsKeptOf text kept = IsKept text kept.from kept.bytes.items

-- the pointers that these strings encode were looked up in this text, of which some bytes are kept for each
pub record AreValuesRead (settings : Settings) (spelt : List (List ℕ)) (text : List ℕ) (reader : ValuesReader) : Type 0 where
  pub pointers : List (List ℕ)
  pub read : AreReadPointers spelt pointers reader.unread.items
  pub fed : HasFed settings pointers text reader.finder
  pub kept : All (IsKeptOf text) reader.kept.items

-- in what was read so far
pub record AreLooked (settings : Settings) (spelt : List (List ℕ)) (unread left : Option (List ℕ)) (reader : ValuesReader) : Type 0 where
  pub text : List ℕ
  pub read : Consumes unread left text
  pub looked : AreValuesRead settings spelt text reader

-- in all that there was to read
pub record AreAllRead (settings : Settings) (spelt : List (List ℕ)) (unread left : Option (List ℕ)) (reader : ValuesReader) : Type 0 where
  pub text : List ℕ
  pub read : ReadsToEnd unread left text
  pub looked : AreValuesRead settings spelt text reader

-- the output and the messages for a text by what is kept of it
abbrev pub IsHeldFor : Form → ValuesTask → List ℕ → Held → Type 0
IsHeldFor form task text held = ValuesOutput form task text (flat_map (value_line form held.text.items) held.reply.answers.items) held.reply.told.items (exit_by held.reply.told.items)

-- the reader gave all that it had, and this is kept for it
abbrev pub IsHeldAnswer : Form → ValuesTask → Option (List ℕ) → Option (List ℕ) → Held → Type 0
IsHeldAnswer form task unread left held =
    IsAnswered (λ text output exit. ValuesOutput form task text output held.reply.told.items exit) task.piece unread left (flat_map (value_line form held.text.items) held.reply.answers.items) (exit_by held.reply.told.items)
