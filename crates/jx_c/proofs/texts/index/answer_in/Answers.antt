use Rattle.jx_c.proofs.texts.index.answer_in.Goals as goal

pub returns : goal.returns
returns c = λ settings text told. (c.look_up_in.result, (c.look_up_in.ensures settings text told, c.shown_look_up.ensures))
