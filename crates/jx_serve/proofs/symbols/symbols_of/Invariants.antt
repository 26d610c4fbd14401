use Rattle.std.proofs.Common.{◌≡◌, map, take}
use Rattle.jx_edit.specs.Positions.{position_at}
use Rattle.jx_serve.specs.Values.{symbol_of}
use Rattle.jx_serve.proofs.symbols.symbols_of.Given as goal

-- the rows so far are listed, and a position of the document is known
abbrev pub invariant-loop-row : goal.invariant-loop-row
invariant-loop-row l = record {
  listed : l.symbols.items ≡ map (symbol_of l.encoding l.document.bytes l.kept) (take l.row-index l.first);
  known : l.known.position ≡ position_at l.encoding l.document.bytes l.known.offset;
}
