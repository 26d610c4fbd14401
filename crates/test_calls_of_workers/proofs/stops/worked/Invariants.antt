use Rattle.test_calls_of_workers.proofs.stops.worked.Given as goal

abbrev pub ghosts-alone-P-Ledger : goal.ghosts-alone-P-Ledger
ghosts-alone-P-Ledger g a = record { name = a.put.name; parts = a.put.parts }

abbrev pub ghosts-alone-T-Ledger : goal.ghosts-alone-T-Ledger
ghosts-alone-T-Ledger g a = record { name = a.taken.name; parts = a.taken.parts }
