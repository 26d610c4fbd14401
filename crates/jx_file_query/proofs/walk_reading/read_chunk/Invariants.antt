use Rattle.std.proofs.Common.{◌≡◌, length}
use Rattle.jx_find.specs.Held.{IsHeld}
use Rattle.jx_file_query.proofs.walk_reading.read_chunk.Given as goal

abbrev pub ghosts-read_first : goal.ghosts-read_first
ghosts-read_first a = record {
  held = λ bytes marks ends. (0 ≡ length bytes) × IsHeld bytes a.edges.now marks ends a.held.state a.held.next a.held.begun a.held.name.items;
  slice = a.slice.now;
  edges = a.edges.now;
}

abbrev pub ghosts-read_later : goal.ghosts-read_later
ghosts-read_later a = record {
  held = λ bytes marks ends. (a.base ≡ length bytes) × IsHeld bytes a.edges.now marks ends a.held.state a.held.next a.held.begun a.held.name.items;
  slice = a.slice.now;
  edges = a.edges.now;
}
