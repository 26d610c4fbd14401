-- The faults of other crates, as this one reports them.
use Rattle.std.specs.Prelude.{◌≡◌, ◌≢◌, ℕ, List, slice_range}
use Rattle.jx_file_index.specs.declared.index_decoding.SavedFault.{SavedFault}
use Rattle.jx_file_index.specs.declared.index_decoding.SavedFault.TheVariants as saved
use Rattle.jx_file_query.specs.declared.walk.WalkFault.{WalkFault}
use Rattle.jx_file_query.specs.declared.walk.WalkFault.TheVariants as walk
use Rattle.jx_cmd_index.specs.declared.look_fault.LookFault.{LookFault}
use Rattle.jx_cmd_index.specs.declared.look_fault.LookFault.TheVariants.{Changed, Memory, NoText, OtherSize, Saved, SavedRead, TextRead, Write}

abbrev pub saved_fault : SavedFault → LookFault
saved_fault saved.Memory = Memory
saved_fault saved.NotAnIndex = Saved saved.NotAnIndex
saved_fault saved.OtherVersion = Saved saved.OtherVersion
saved_fault saved.CutShort = Saved saved.CutShort
saved_fault saved.Damaged = Saved saved.Damaged
saved_fault saved.Malformed = Saved saved.Malformed
saved_fault saved.Longer = Saved saved.Longer

abbrev pub walk_fault : WalkFault → LookFault
walk_fault (walk.Changed span) = Changed span
walk_fault walk.Damaged = NoText

-- why an index is not read, or not taken for the one of a text of so many bytes
abbrev pub IsOfSaved : ℕ → LookFault → Type 0
IsOfSaved size SavedRead = Unit {0}
IsOfSaved size TextRead = ⊥
IsOfSaved size Write = ⊥
IsOfSaved size Memory = Unit {0}
IsOfSaved size (Saved fault) = Unit {0}
IsOfSaved size (OtherSize bytes indexed) = (bytes ≡ size) × (indexed ≢ size)
IsOfSaved size (Changed span) = ⊥
IsOfSaved size NoText = ⊥

-- a chunk is reported to be changed only where the file has other bytes there than the text; the index of a text is
-- never damaged
abbrev pub IsChange : List ℕ → List ℕ → LookFault → Type 0
IsChange text file SavedRead = Unit {0}
IsChange text file TextRead = Unit {0}
IsChange text file Write = Unit {0}
IsChange text file Memory = Unit {0}
IsChange text file (Saved fault) = Unit {0}
IsChange text file (OtherSize bytes indexed) = Unit {0}
IsChange text file (Changed span) = slice_range file span.start span.end ≢ slice_range text span.start span.end
IsChange text file NoText = ⊥
