use Rattle.test_memory_of_answers.proofs.tests.gathered.run_of_two.Given as goal

abbrev pub ghosts-run_by_two-P-Ledger : goal.ghosts-run_by_two-P-Ledger
ghosts-run_by_two-P-Ledger g a = record { name = a.put.name; parts = a.put.parts }

abbrev pub ghosts-run_by_two-T-Ledger : goal.ghosts-run_by_two-T-Ledger
ghosts-run_by_two-T-Ledger g a = record { name = a.taken.name; parts = a.taken.parts }
