use Rattle.jx_file_lines.proofs.line_index.LineIndex.encode.Goals as goal

pub returns : goal.returns
returns c = rw (c.in_ok-extend_from_slice.ensures.items, c.to_le_bytes.ensures, c.digest_of-digest.ensures, c.deref.ensures.value, c.in_ok-bytes.ensures)
