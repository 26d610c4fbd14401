use Rattle.std.specs.Int.{w16, w64, to_le_bytes}
use Rattle.jx_file_index.specs.Spelling.{spelt_choices}
use Rattle.jx_file_index.proofs.Spellings.{five}
use Rattle.jx_file_index.proofs.index_spelling.put_entry.Goals as goal

pub returns : goal.returns
returns c =
    let e = c.args.entry.now in
    rw (c.in_ok-extend_from_slice-5.ensures.items, c.in_ok-extend_from_slice-4.ensures.items, c.in_ok-extend_from_slice-3.ensures.items, c.in_ok-extend_from_slice-2.ensures.items, c.in_ok-extend_from_slice.ensures.items, c.to_le_bytes-4.ensures, c.to_le_bytes-3.ensures, c.choices.ensures, c.to_le_bytes-2.ensures, c.to_le_bytes.ensures)
    (five c.args.out.now.items (to_le_bytes w16 e.sum.closed) (to_le_bytes w16 e.sum.opened) (spelt_choices e) (to_le_bytes w64 e.sum.commas) (to_le_bytes w64 e.digest))
