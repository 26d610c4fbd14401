use Rattle.std.proofs.Common.{refl}
use Rattle.jx_answer.proofs.bytes.texts.index_text_with.Goals as goal

pub returns : goal.returns
returns g c = record { answer = c.by_names.ensures.answer c.args.settings.now c.args.text.now refl c.in_ok-answer.ensures.answer }
