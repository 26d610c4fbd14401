-- How an input is read batch by batch, for the index of its lines.
use Rattle.std.specs.Prelude.{Option}
use Rattle.std.proofs.Common.{ℕ, List, ◌++◌}
use Rattle.std.specs.Io.KnownBytes.{Consumes}
use Rattle.std.proofs.KnownBytes.{Consumes-trans}
use Rattle.jx_file_lines.specs.declared.line_indexer.LineIndexer.{LineIndexer}
use Rattle.jx_file_lines.specs.Feeding.{HasFedLines}
use Rattle.jx_cmd_lines.specs.inside.Reading.{HasFedOn}

pub goes_on : (chunk : ℕ) (u m n : Option (List ℕ)) (batch : List ℕ) (old new : LineIndexer) → HasFedOn chunk u m old → Consumes m n batch
    → ((chunk : ℕ) (bytes : List ℕ) → HasFedLines chunk bytes old → HasFedLines chunk (bytes ++ batch) new) → HasFedOn chunk u n new
goes_on chunk u m n batch old new h r fed = record {
  bytes = h.bytes ++ batch;
  read = Consumes-trans _ _ _ _ _ h.read r;
  fed = fed chunk h.bytes h.fed;
}
