-- Values of lines that come slice by slice, as a contract sees them, and the bytes that were taken.
use Rattle.std.specs.Prelude.{◌≡◌, ℕ, List, [], ◌∷◌, ◌++◌, drop, length, if◌then◌else◌, ◌==◌}
use Rattle.std.specs.List.{AllZip}
use Rattle.jx_run.specs.declared.texts.settings.FrontMark.{FrontMark}
use Rattle.jx_run.specs.declared.texts.settings.FrontMark.TheVariants.{Refused}
use Rattle.jx_run.specs.Elements.{Part, part}
use Rattle.jx_ndjson.specs.Lines.{is_line_feed, mark_length}
use Rattle.jx_ndjson.specs.Parts.{parts_by}
use Rattle.jx_ndjson.specs.Reading.{ended_from}
use Rattle.jx_ends.specs.declared.exit.Exit.{Exit}
use Rattle.jx_line_values.specs.declared.task.LineValuesTask.{LineValuesTask}
use Rattle.jx_line_values.specs.LineValues.{IsGiven, LineGiven, all_told, all_written, exit_by}

pub record CutterValue : Type 0 where
  -- the bytes of the line that goes on
  pub kept : List ℕ
  -- how many lines have ended
  pub ended : ℕ
  -- the output that waits, and the messages
  pub ready : List ℕ
  pub told : List ℕ
  -- the status by the messages
  pub exit : Exit

-- the first line, which stands at the offset 0, without a byte order mark in front, where it is ignored
abbrev pub bare_bytes : FrontMark → List ℕ → List ℕ
bare_bytes mark bytes = drop (mark_length mark bytes) bytes

abbrev pub bare : FrontMark → Part → Part
bare mark p = part (mark_length mark p.bytes) (bare_bytes mark p.bytes)

abbrev pub bare_first : FrontMark → List Part → List Part
bare_first mark [] = []
bare_first mark (p ∷ ps) = bare mark p ∷ ps

-- the bytes of a line after so many others
abbrev pub line_bytes : FrontMark → ℕ → List ℕ → List ℕ
line_bytes mark ended kept = if ended == 0 then bare_bytes mark kept else kept

-- the rule on a byte order mark in front of it then
abbrev pub line_mark : FrontMark → ℕ → List ℕ → FrontMark
line_mark mark ended kept = if ended == 0 then (if mark_length mark kept == 0 then mark else Refused) else Refused

-- it has taken these bytes of an input, from its start; this was written and told of them before what waits
pub record HasTaken (task : LineValuesTask) (bytes given said : List ℕ) (t : CutterValue) : Type 0 where
  pub ended : List Part
  pub last : Part
  pub parts : parts_by is_line_feed 0 bytes ≡ ended ++ last ∷ []
  pub kept : t.kept ≡ last.bytes
  pub count : t.ended ≡ length ended
  pub lines : List LineGiven
  pub are_given : AllZip (IsGiven task) (ended_from 1 (bare_first task.settings.mark ended)) lines
  pub written : given ++ t.ready ≡ all_written lines
  pub told : said ++ t.told ≡ all_told lines
  pub exit : t.exit ≡ exit_by said
