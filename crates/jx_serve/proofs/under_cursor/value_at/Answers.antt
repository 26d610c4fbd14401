use Rattle.std.proofs.Common.{subst}
use Rattle.jx_index.specs.ByNames.{IsVerdictBy}
use Rattle.jx_serve.specs.Values.{no_text}
use Rattle.jx_serve.proofs.under_cursor.value_at.Goals as goal

pub returns-in-Refused : goal.returns-in-Refused
returns-in-Refused c = no_text (subst (IsVerdictBy c.args.settings.now c.args.text.now) c.in-Refused.is c.in_ok-verdict-in-Unique.ensures.verdict)
