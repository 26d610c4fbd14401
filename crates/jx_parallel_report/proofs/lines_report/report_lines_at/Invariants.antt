use Rattle.jx_ndjson_report.specs.Output.{bad_lines}
use Rattle.jx_parallel_report.proofs.lines_report.report_lines_at.Given as goal

abbrev pub ghosts-report_lines_of : goal.ghosts-report_lines_of
ghosts-report_lines_of g a = record { settings = a.task.now.settings; told = bad_lines a.task.now }
