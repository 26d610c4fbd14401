use Rattle.jx_around.proofs.reading.around_from.Given as goal

abbrev pub ghosts-read_from : goal.ghosts-read_from
ghosts-read_from a = record { offset = a.offset }
