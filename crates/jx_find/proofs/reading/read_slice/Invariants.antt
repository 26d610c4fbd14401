use Rattle.std.proofs.Common.{◌≡◌, ◌+◌, length}
use Rattle.jx_find.specs.Held.{IsHeld}
use Rattle.jx_find.proofs.reading.read_slice.Given as goal

abbrev pub ghosts-seek : goal.ghosts-seek
ghosts-seek a = record {
  held = λ bytes marks ends. (a.reader.now.start + a.reader.now.count ≡ length bytes) × IsHeld bytes a.edges.now marks ends a.held.state a.held.next a.held.begun a.held.name.items;
  slice = a.slice.now;
  edges = a.edges.now;
}
