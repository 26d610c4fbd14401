use Rattle.jx_report.proofs.Answers.{judged_output}
use Rattle.jx_report.proofs.reply.sequence_reply.Goals as goal

pub returns : goal.returns
returns g c =
    judged_output c.args.text.now c.args.settings.now c.in_ok-elements.elements.items c.in_ok-elements.ensures.elements
