-- How far the reading of a text's chunks came.
use Rattle.std.specs.Prelude.{◌≡◌, ℕ, ◌*◌, ◌<◌, List, ◌++◌, length, Bool, Option, false}
use Rattle.jx_run.specs.declared.texts.settings.Settings.{Settings}
use Rattle.jx_run.specs.Reader.{HasRead, ReaderValue, is_fault}
use Rattle.jx_file_index.specs.declared.entry.Entry.{Entry}
use Rattle.jx_file_build.specs.declared.held.Held.TheInside.{Inside}
use Rattle.jx_file_build.specs.declared.named_chunks.NamedChunks.{NamedChunks}
use Rattle.jx_file_build.specs.inside.NamedChunks.{AreBegun, AreFit, AreNamesAt}
use Rattle.jx_file_index.specs.Chunks.{IsCount, entries_of}

pub record HeldValue : Type 0 where
  pub reader : ReaderValue
  pub entries : List Entry
  -- none where they are not asked for
  pub names : Option NamedChunks

abbrev pub held_of : Inside → HeldValue
held_of a = record { reader = a.reader; entries = a.entries.items; names = a.names }

-- the names go on where the reader does
pub record IsLawful (a : Inside) : Type 0 where
  pub turn : AreBegun a.reader.outcome a.names
  pub fit : AreFit a.names

-- by these settings it has read these bytes, the first of them at offset 0
pub record HasReadBy (settings : Settings) (bytes : List ℕ) (reader : ReaderValue) : Type 0 where
  pub by : reader.settings ≡ settings
  pub start : reader.start ≡ 0
  pub read : HasRead bytes reader

-- these bytes were read; unless there was a fault, the entries are those of their chunks, and so are the names
pub record IsEntered (has_names : Bool) (settings : Settings) (size : ℕ) (bytes : List ℕ) (h : HeldValue) : Type 0 where
  pub read : HasReadBy settings bytes h.reader
  pub entries : is_fault h.reader.outcome ≡ false → h.entries ≡ entries_of settings size bytes (length h.entries)
  pub names : AreNamesAt has_names settings size bytes (length h.entries) h.reader.outcome h.names

-- and each chunk is whole
pub record AreWhole (has_names : Bool) (settings : Settings) (size : ℕ) (bytes : List ℕ) (h : HeldValue) : Type 0 where
  pub entered : IsEntered has_names settings size bytes h
  pub whole : length bytes ≡ length h.entries * size

-- and the last chunk may be shorter
pub record AreAll (has_names : Bool) (settings : Settings) (size : ℕ) (bytes : List ℕ) (h : HeldValue) : Type 0 where
  pub entered : IsEntered has_names settings size bytes h
  pub counted : IsCount size (length bytes) (length h.entries)

-- these bytes are those of whole chunks and of a part of another, which is kept
pub record AreHeld (has_names : Bool) (settings : Settings) (size : ℕ) (bytes : List ℕ) (h : HeldValue) (part : List ℕ) : Type 0 where
  pub before : List ℕ
  pub bytes_are : bytes ≡ before ++ part
  pub whole : AreWhole has_names settings size before h
  pub short : length part < size
