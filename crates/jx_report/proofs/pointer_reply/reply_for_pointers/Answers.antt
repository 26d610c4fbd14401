use Rattle.std.proofs.Common.{map}
use Rattle.std.specs.Prelude.{string_bytes}
use Rattle.jx_report.proofs.pointer_reply.reply_for_pointers.Goals as goal

pub returns : goal.returns
returns g c = c.reply_of_answers.ensures c.args.settings.now (map string_bytes c.args.pointers.now) c.args.text.now c.in_ok-answers.ensures
