use Rattle.std.proofs.Common.{sym, ◌∙◌}
use Rattle.jx_run.proofs.ElementSteps.{last-open}
use Rattle.jx_run.proofs.sequences.open_end.ends_open_behind.Goals as goal

pub returns-in-Some : goal.returns-in-Some
returns-in-Some c = c.is_open.ensures ∙ sym (last-open c.args.before c.args.bytes.now c.in-Some.byte.now (sym c.in-Some.ensures.value))
