use Rattle.std.proofs.Common.{◌≡◌, ◌+◌, take}
use Rattle.jx_serve.specs.inside.LineTables.{HasBad, len_of}
use Rattle.jx_serve.proofs.bad_lines.read_blocks.Given as goal

-- the blocks so far are taken
abbrev pub invariant-loop-block : goal.invariant-loop-block
invariant-loop-block l = record {
  bad : HasBad l.settings (take (len_of (take l.block-index l.table.front.items)) l.document.bytes) l.lines.bad.items l.lines.reader;
  end : l.lines.reader.reader.start + l.lines.reader.reader.count ≡ len_of (take l.block-index l.table.front.items);
}
