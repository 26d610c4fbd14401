use Rattle.std.specs.Int.{w32, w64, to_le_bytes}
use Rattle.jx_file_index.specs.Spelling.{front_flags, spelt_entry, tag}
use Rattle.jx_file_index.proofs.Spellings.{six}
use Rattle.jx_file_index.proofs.index_spelling.front_of.Goals as goal

pub returns : goal.returns
returns c =
    let i = c.args.index.now in
    rw (c.in_ok-put_entry.ensures, c.in_ok-extend_from_slice-6.ensures.items, c.in_ok-extend_from_slice-5.ensures.items, c.in_ok-extend_from_slice-4.ensures.items, c.in_ok-extend_from_slice-3.ensures.items, c.in_ok-extend_from_slice-2.ensures.items, c.in_ok-extend_from_slice.ensures.items, c.new-bytes.ensures.items, c.to_le_bytes-5.ensures, c.to_le_bytes-4.ensures, c.front_flags.ensures, c.to_le_bytes-3.ensures, c.containers.ensures.value, c.to_le_bytes-2.ensures, c.bytes.ensures.value, c.to_le_bytes.ensures)
    (six tag (to_le_bytes w64 i.size) (to_le_bytes w32 i.chunk) (to_le_bytes w32 i.settings.depth) (to_le_bytes w32 (front_flags i.settings.mark i.settings.names)) (to_le_bytes w32 0) (spelt_entry i.top))
