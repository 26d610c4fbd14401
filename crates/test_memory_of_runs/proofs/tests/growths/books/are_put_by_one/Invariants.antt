use Rattle.test_memory_of_runs.proofs.tests.growths.books.are_put_by_one.Given as goal

abbrev pub ghosts-are_put-P-Ledger : goal.ghosts-are_put-P-Ledger
ghosts-are_put-P-Ledger g a = record { name = a.put.name; parts = a.put.parts }

abbrev pub ghosts-are_put-T-Ledger : goal.ghosts-are_put-T-Ledger
ghosts-are_put-T-Ledger g a = record { name = a.taken.name; parts = a.taken.parts }
