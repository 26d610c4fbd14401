-- The contents of a reply to a text: what is written by its answers, and the report.
use Rattle.std.specs.Prelude.{ℕ, List, flat_map}
use Rattle.jx_task.specs.declared.values_task.ValuesTask.{ValuesTask}
use Rattle.jx_values.specs.declared.form.Form.{Form}
use Rattle.jx_values.specs.declared.reply.Reply.{Reply}
use Rattle.jx_values.specs.Values.{ValuesOutput, exit_by, value_line}

abbrev pub IsReplyTo : Form → ValuesTask → List ℕ → Reply → Type 0
IsReplyTo form task text reply = ValuesOutput form task text (flat_map (value_line form text) reply.answers.items) reply.told.items (exit_by reply.told.items)
