use Rattle.test_memory_of_answers.proofs.tests.gathered.is_other_of_one.Given as goal

abbrev pub ghosts-is_other-P-Ledger : goal.ghosts-is_other-P-Ledger
ghosts-is_other-P-Ledger g a = record { name = a.put.name; parts = a.put.parts }

abbrev pub ghosts-is_other-T-Ledger : goal.ghosts-is_other-T-Ledger
ghosts-is_other-T-Ledger g a = record { name = a.taken.name; parts = a.taken.parts }
