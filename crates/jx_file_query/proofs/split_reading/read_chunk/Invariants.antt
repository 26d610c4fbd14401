use Rattle.jx_file_query.specs.Cuts.{cuts_of}
use Rattle.jx_file_query.proofs.split_reading.read_chunk.Given as goal

abbrev pub ghosts-read_first : goal.ghosts-read_first
ghosts-read_first a = record { aim = a.aim; base = 0; cuts = cuts_of a.held }

abbrev pub ghosts-read_later : goal.ghosts-read_later
ghosts-read_later a = record { aim = a.aim; base = a.base; cuts = cuts_of a.held }
