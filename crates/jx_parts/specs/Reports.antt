-- Work on the parts of a text from a reader to a writer, by their bytes.
use Rattle.std.specs.Prelude.{◌≡◌, ℕ, ◌+◌, List, length, Option, unwrap_or, Bool}
use Rattle.std.specs.List.{concat}
use Rattle.std.specs.Io.KnownBytes.{Appends}
use Rattle.jx_portion.specs.Portion.{IsRecord}
use Rattle.jx_ends.specs.declared.exit.Exit.{Exit}
use Rattle.jx_ends.specs.Ends.{ReadsToEnd, AppendsBeginning}
use Rattle.jx_words.specs.Verdicts.{ByVerdict, SaysAccepted}
use Rattle.jx_words.specs.Verdicts.{shown_output}
use Rattle.jx_run.specs.declared.texts.verdict.Verdict.{Verdict}
use Rattle.jx_run.specs.Verdict.{Judged}
use Rattle.jx_parts.specs.Records.{AreRecords, HoldsRuns}

-- the stream has runs of neighbours, and where they are the run files of the parts of a text, that of the text is
-- written
pub record Joins (depth : ℕ) (stream output : List ℕ) : Type 0 where
  pub from : Option ℕ
  pub count : ℕ
  pub holds : HoldsRuns depth from count stream
  pub joined : (start : Option ℕ) (parts records : List (List ℕ)) → stream ≡ concat records → AreRecords depth start parts records
      → IsRecord (concat parts) start depth output

-- the verdict on the text from one offset to the other, where the stream has the run files of its parts
pub record IsOnText (from to depth : ℕ) (start : Option ℕ) (text : List ℕ) (verdict : Verdict) : Type 0 where
  pub begins : unwrap_or start 0 ≡ from
  pub ends : from + length text ≡ to
  pub judged : Judged from text depth verdict

abbrev pub Judges : ℕ → ℕ → ℕ → List ℕ → Verdict → Type 0
Judges from to depth stream verdict = (start : Option ℕ) (parts records : List (List ℕ)) → stream ≡ concat records → AreRecords depth start parts records
    → IsOnText from to depth start (concat parts) verdict

-- the reader gave all that it had, and the writer got an output for it
pub record Writes (IsFor : List ℕ → List ℕ → Type 0) (unread left written grown : Option (List ℕ)) : Type 0 where
  pub text : List ℕ
  pub output : List ℕ
  pub read : ReadsToEnd unread left text
  pub answer : IsFor text output
  pub wrote : Appends written grown output

-- the same, and the writer got a beginning of the output, and not all
pub record WritesInPart (IsFor : List ℕ → List ℕ → Type 0) (unread left written grown : Option (List ℕ)) : Type 0 where
  pub text : List ℕ
  pub output : List ℕ
  pub read : ReadsToEnd unread left text
  pub answer : IsFor text output
  pub wrote : AppendsBeginning written grown output

-- the stream has runs of neighbours that cover the text, and the line of the verdict on the text that the run files are
-- of is written
pub record SaysWhole (from to depth : ℕ) (quiet : Bool) (exit : Exit) (stream shown : List ℕ) : Type 0 where
  pub start : Option ℕ
  pub count : ℕ
  pub holds : HoldsRuns depth start count stream
  pub begins : unwrap_or start 0 ≡ from
  pub ends : from + count ≡ to
  pub verdict : Verdict
  pub output : List ℕ
  pub judges : Judges from to depth stream verdict
  pub says : ByVerdict SaysAccepted verdict output exit
  pub shows : shown ≡ shown_output quiet output

-- the same with some exit
abbrev pub SaysWholeSo : ℕ → ℕ → ℕ → Bool → List ℕ → List ℕ → Type 0
SaysWholeSo from to depth quiet stream shown = (exit : Exit) × SaysWhole from to depth quiet exit stream shown
