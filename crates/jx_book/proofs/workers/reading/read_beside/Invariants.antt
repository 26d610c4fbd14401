use Rattle.jx_book.proofs.workers.reading.read_beside.Given as goal

abbrev pub ghosts-read_with-P-Ledger : goal.ghosts-read_with-P-Ledger
ghosts-read_with-P-Ledger g a = record { name = a.put.name; parts = a.put.parts }

abbrev pub ghosts-read_with-T-Ledger : goal.ghosts-read_with-T-Ledger
ghosts-read_with-T-Ledger g a = record { name = a.taken.name; parts = a.taken.parts }
