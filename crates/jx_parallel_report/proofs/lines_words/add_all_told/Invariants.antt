-- The reports so far, and those on the rest.
use Rattle.std.proofs.Common.{◌≡◌, ◌++◌, drop}
use Rattle.jx_ndjson_report.specs.Output.{bad_lines}
use Rattle.jx_parallel_report.proofs.lines_words.add_all_told.Given as goal

abbrev pub invariant-loop-number : goal.invariant-loop-number
invariant-loop-number l = l.words.items ++ bad_lines l.task (drop l.number l.judged) ≡ l.initial.words.items ++ bad_lines l.task l.judged
