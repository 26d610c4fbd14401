-- A report by a saved index: its output, and why it fails, where the bytes of the files are known.
use Rattle.std.specs.Prelude.{◌≡◌, ◌≢◌, ℕ, List, Option, Some, slice_range}
use Rattle.std.specs.Io.KnownBytes.{Appends}
use Rattle.jx_run.specs.declared.texts.settings.Settings.{Settings}
use Rattle.jx_ends.specs.declared.exit.Exit.{Exit}
use Rattle.jx_ends.specs.Ends.{AppendsBeginning}
use Rattle.jx_report.specs.Output.{AnswersPointers, TextOutput}
use Rattle.jx_cmd_index.specs.declared.look_fault.LookFault.{LookFault}
use Rattle.jx_cmd_index.specs.declared.look_fault.LookFault.TheVariants.{Changed, Memory, NoText, OtherSize, Saved, SavedRead, TextRead, Write}
use Rattle.jx_cmd_index.specs.Offsets.{HasSize}
use Rattle.jx_cmd_index.specs.SavedBytes.{IsSavedOf, TellsApart}

-- ---- what is written

-- where the index is that of a text, and the file has no other chunk with the digest of one of the text, this is what `at` writes
-- on the text
abbrev pub ArePlaces : List (List ℕ) → Option (List ℕ) → Option (List ℕ) → List ℕ → Exit → Type 0
ArePlaces pointers saved content output exit =
    (settings : Settings) (chunk : ℕ) (text bytes file : List ℕ) → IsSavedOf settings chunk text bytes → saved ≡ Some bytes → content ≡ Some file → TellsApart chunk text file
    → TextOutput (AnswersPointers pointers settings text) settings text output exit

pub record WritesPlaces (pointers : List (List ℕ)) (saved content written grown : Option (List ℕ)) (exit : Exit) : Type 0 where
  pub output : List ℕ
  pub are_places : ArePlaces pointers saved content output exit
  pub wrote : Appends written grown output

-- a beginning of that, and not all
pub record WritesPlacesInPart (pointers : List (List ℕ)) (saved content written grown : Option (List ℕ)) : Type 0 where
  pub output : List ℕ
  pub exit : Exit
  pub are_places : ArePlaces pointers saved content output exit
  pub wrote : AppendsBeginning written grown output

-- ---- faults

-- why pointers are not looked up in the text of an index that was read
abbrev pub IsOfText : LookFault → Type 0
IsOfText SavedRead = ⊥
IsOfText TextRead = Unit {0}
IsOfText Write = ⊥
IsOfText Memory = Unit {0}
IsOfText (Saved fault) = ⊥
IsOfText (OtherSize bytes indexed) = ⊥
IsOfText (Changed span) = Unit {0}
IsOfText NoText = Unit {0}

-- the file has so many bytes, and those that were indexed are not as many
pub record HasOtherSize (content : Option (List ℕ)) (size indexed : ℕ) : Type 0 where
  pub is_size : HasSize content size
  pub other : indexed ≢ size

-- the same, where the index is that of a text, for which a chunk is reported to be changed only where the file has
-- other bytes there
abbrev pub FailsFor : Option (List ℕ) → Option (List ℕ) → LookFault → Type 0
FailsFor saved content SavedRead = Unit {0}
FailsFor saved content TextRead = Unit {0}
FailsFor saved content Write = Unit {0}
FailsFor saved content Memory = Unit {0}
FailsFor saved content (Saved fault) = Unit {0}
FailsFor saved content (OtherSize size indexed) = HasOtherSize content size indexed
FailsFor saved content (Changed span) =
    (settings : Settings) (chunk : ℕ) (text bytes file : List ℕ) → IsSavedOf settings chunk text bytes → saved ≡ Some bytes → content ≡ Some file → TellsApart chunk text file
    → slice_range file span.start span.end ≢ slice_range text span.start span.end
FailsFor saved content NoText =
    (settings : Settings) (chunk : ℕ) (text bytes file : List ℕ) → IsSavedOf settings chunk text bytes → saved ≡ Some bytes → content ≡ Some file → TellsApart chunk text file → ⊥
