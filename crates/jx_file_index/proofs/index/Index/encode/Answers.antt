use Rattle.std.proofs.Common.{List, ℕ, ◌++◌, ap, ◌∙◌}
use Rattle.std.specs.Int.{w64, to_le_bytes}
use Rattle.std.specs.List.{flat_map}
use Rattle.jx_file_index.specs.declared.entry.Entry.{Entry}
use Rattle.jx_file_index.specs.Digest.{xxh64}
use Rattle.jx_file_index.specs.Spelling.{spelt_entry}
use Rattle.jx_file_index.proofs.index.Index.encode.Goals as goal

pub returns : goal.returns
returns c =
    c.in_ok-put_entries.ensures
    ∙ ap (λ (es : List Entry). c.in_ok-bytes.bytes.items ++ flat_map spelt_entry es) c.deref.ensures.value
    ∙ ap (λ (xs : List ℕ). xs ++ flat_map spelt_entry c.args.self.now.entries.items) (c.in_ok-bytes.ensures ∙ ap (λ (xs : List ℕ). xs ++ to_le_bytes w64 (xxh64 xs)) c.in_ok-front_of.ensures)
