use Rattle.jx_parallel.proofs.check.check_at.Given as goal

abbrev pub ghosts-check_by : goal.ghosts-check_by
ghosts-check_by g a = record { text = g.F.SharedAt.content a.file.now; settings = a.settings.now }
