-- Facts of each text with an index, where its chunks are distinguished in the file that is read.
use Rattle.std.specs.Prelude.{◌≡◌, ℕ, List, Option, Some, slice_range}
use Rattle.jx_run.specs.declared.texts.settings.Settings.{Settings}
use Rattle.jx_file_index.specs.declared.index.Index.{Index}
use Rattle.jx_file_index.specs.Index.{IsIndexOf}
use Rattle.jx_cmd_index.specs.declared.look_fault.LookFault.{LookFault}
use Rattle.jx_cmd_index.specs.inside.Faults.{IsChange}
use Rattle.jx_cmd_index.specs.SavedBytes.{TellsApart}

-- this holds of it, and of the file
abbrev pub OfEachText : Option (List ℕ) → Index → (List ℕ → List ℕ → Type 0) → Type 0
OfEachText known index P = (settings : Settings) (chunk : ℕ) (text file : List ℕ) → IsIndexOf settings chunk text index → known ≡ Some file → TellsApart chunk text file → P text file

-- these are its bytes from one offset to another
abbrev pub AreBytesIn : Option (List ℕ) → Index → ℕ → ℕ → List ℕ → Type 0
AreBytesIn known index start end bytes = OfEachText known index (λ text file. bytes ≡ slice_range text start end)

-- a chunk is reported to be changed only where it is
abbrev pub IsChangeIn : Option (List ℕ) → Index → LookFault → Type 0
IsChangeIn known index fault = OfEachText known index (λ text file. IsChange text file fault)
