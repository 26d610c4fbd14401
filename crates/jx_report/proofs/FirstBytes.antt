-- The first bytes of a sequence are no part of what is read of its elements.
use Rattle.std.specs.Prelude.{ℕ, List, Vec}
use Rattle.std.specs.Global.{Global}
use Rattle.jx_run.specs.declared.texts.settings.Settings.{Settings}
use Rattle.jx_report.specs.declared.sequence_reader.SequenceReader.{SequenceReader}
use Rattle.jx_report.specs.inside.Sequences.{AreReadBy}

pub first_apart : (settings : Settings) (text : List ℕ) (sequence : SequenceReader) (first : Vec ℕ Global) → AreReadBy settings text sequence → AreReadBy settings text (record sequence { first = first })
first_apart settings text sequence first h = record { settings_are = h.settings_are; told = h.told; read = h.read; kept = h.kept; held = h.held }
