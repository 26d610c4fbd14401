-- The contents of a reply: the output that is still to be written, and the status.
use Rattle.std.specs.Prelude.{ℕ, List, ◌++◌, codes}
use Rattle.jx_ends.specs.declared.exit.Exit.{Exit}
use Rattle.jx_ends.specs.declared.exit.Exit.TheVariants.{Good}
use Rattle.jx_report.specs.declared.reply.Reply.{Reply}
use Rattle.jx_report.specs.declared.reply.Reply.TheVariants as reply
use Rattle.jx_report.specs.Elements.{judged_lines, exit_past_judged}
use Rattle.jx_words.specs.inside.Lines.{exit_past_lines, pointer_lines, verdict_exit, verdict_line}
use Rattle.jx_report.specs.RowWords.{row_lines}
use Rattle.jx_words.specs.Words.{line}

-- the whole output
abbrev pub reply_output : Reply → List ℕ
reply_output (reply.Verdict verdict) = verdict_line verdict
reply_output (reply.Rows rows) = line (codes "accepted") ++ row_lines 0 rows.items
reply_output (reply.Pointers lines) = pointer_lines lines.items
reply_output (reply.Elements elements) = judged_lines elements.items

abbrev pub reply_exit : Reply → Exit
reply_exit (reply.Verdict verdict) = verdict_exit verdict
reply_exit (reply.Rows rows) = Good
reply_exit (reply.Pointers lines) = exit_past_lines Good lines.items
reply_exit (reply.Elements elements) = exit_past_judged Good elements.items
