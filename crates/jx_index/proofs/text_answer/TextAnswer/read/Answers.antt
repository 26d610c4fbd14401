use Rattle.std.proofs.Common.{refl}
use Rattle.jx_index.proofs.text_answer.TextAnswer.read.Goals as goal

pub returns : goal.returns
returns c = record { answer = c.by_names.ensures.answer c.args.settings.now c.args.text.now refl c.in_ok-answer.ensures }
