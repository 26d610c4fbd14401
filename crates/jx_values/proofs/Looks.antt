-- How pointers are looked up batch by batch.
use Rattle.std.specs.Prelude.{Option}
use Rattle.std.proofs.Common.{◌≡◌, ℕ, List, ◌++◌, length, arith}
use Rattle.std.specs.Io.KnownBytes.{Consumes}
use Rattle.std.proofs.KnownBytes.{Consumes-trans}
use Rattle.jx_run.specs.declared.texts.settings.Settings.{Settings}
use Rattle.jx_find.specs.Finder.{end_of}
use Rattle.jx_values.specs.declared.value_reader.ValuesReader.{ValuesReader}
use Rattle.jx_values.specs.inside.Kept.{AreLooked, AreValuesRead}

-- as many bytes were read as there are
pub as_long : (settings : Settings) (spelt : List (List ℕ)) (text : List ℕ) (reader : ValuesReader) → AreValuesRead settings spelt text reader → end_of reader.finder ≡ length text
as_long settings spelt text reader h = omega (arith, h.fed.reading.start, h.fed.reading.read.count)

module _ (settings : Settings) (spelt : List (List ℕ)) where
  pub looks_on : (u m n : Option (List ℕ)) (batch : List ℕ) (old new : ValuesReader) → AreLooked settings spelt u m old → Consumes m n batch
      → ((settings : Settings) (spelt : List (List ℕ)) (text : List ℕ) → AreValuesRead settings spelt text old → AreValuesRead settings spelt (text ++ batch) new) → AreLooked settings spelt u n new
  looks_on u m n batch old new h r on = record { text = h.text ++ batch; read = Consumes-trans _ _ _ _ _ h.read r; looked = on settings spelt h.text h.looked }
