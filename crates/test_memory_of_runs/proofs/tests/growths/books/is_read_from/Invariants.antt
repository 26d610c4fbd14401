use Rattle.test_memory_of_runs.proofs.tests.growths.books.is_read_from.Given as goal

abbrev pub ghosts-is_read-P-Ledger : goal.ghosts-is_read-P-Ledger
ghosts-is_read-P-Ledger g a = record { name = a.put.name; parts = a.put.parts }

abbrev pub ghosts-is_read-T-Ledger : goal.ghosts-is_read-T-Ledger
ghosts-is_read-T-Ledger g a = record { name = a.taken.name; parts = a.taken.parts }
