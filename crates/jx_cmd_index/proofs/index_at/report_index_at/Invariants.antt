use Rattle.jx_cmd_index.proofs.index_at.report_index_at.Given as goal

abbrev pub ghosts-read_index : goal.ghosts-read_index
ghosts-read_index g a = record { settings = a.settings.now; chunk = a.chunk; has_names = a.has_names }
