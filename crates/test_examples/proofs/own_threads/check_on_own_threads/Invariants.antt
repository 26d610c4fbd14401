use Rattle.test_examples.proofs.own_threads.check_on_own_threads.Given as goal

abbrev pub ghosts-check_by_two-P-Ledger : goal.ghosts-check_by_two-P-Ledger
ghosts-check_by_two-P-Ledger g a = record { name = a.put.name; parts = a.put.parts }

abbrev pub ghosts-check_by_two-T-Ledger : goal.ghosts-check_by_two-T-Ledger
ghosts-check_by_two-T-Ledger g a = record { name = a.taken.name; parts = a.taken.parts }
