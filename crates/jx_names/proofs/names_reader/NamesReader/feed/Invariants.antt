use Rattle.std.proofs.Common.{◌≡◌, ◌+◌, length}
use Rattle.jx_names.specs.inside.HeldNames.{IsHeld}
use Rattle.jx_names.proofs.names_reader.NamesReader.feed.Given as goal

abbrev pub ghosts-feed_held : goal.ghosts-feed_held
ghosts-feed_held a = record {
  held = λ bytes marks ends. (a.reader.now.start + a.reader.now.count ≡ length bytes) × IsHeld bytes marks ends a.held.names a.held.begun a.held.name.items;
  slice = a.slice.now;
}
