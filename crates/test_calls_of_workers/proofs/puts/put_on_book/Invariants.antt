use Rattle.test_calls_of_workers.proofs.puts.put_on_book.Given as goal

abbrev pub ghosts-shared-P-Ledger : goal.ghosts-shared-P-Ledger
ghosts-shared-P-Ledger g a = record { name = a.put.name; parts = a.put.parts }

abbrev pub ghosts-shared-T-Ledger : goal.ghosts-shared-T-Ledger
ghosts-shared-T-Ledger g a = record { name = a.taken.name; parts = a.taken.parts }
