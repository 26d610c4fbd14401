use Rattle.std.proofs.Common.{◌≡◌, length}
use Rattle.std.specs.Prelude.{slice_range}
use Rattle.jx_find.specs.Held.{IsHeld}
use Rattle.jx_find.proofs.texts.met_within.Given as goal

abbrev pub ghosts-seek_within : goal.ghosts-seek_within
ghosts-seek_within a = record {
  held = λ bytes marks ends. (0 ≡ length bytes) × IsHeld bytes a.edges.now marks ends a.held.state a.held.next a.held.begun a.held.name.items;
  slice = slice_range a.slice.now 0 a.to;
  edges = a.edges.now;
}
