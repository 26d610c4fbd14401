use Rattle.jx_c.proofs.texts.all.answer_each.Goals as goal

pub returns-clause-answers : goal.returns-clause-answers
returns-clause-answers c = c.answer_all.ensures c.args.settings.now c.args.text.now c.in_ok-read.ensures
