use Rattle.jx_c.proofs.texts.all.look_up_at.Goals as goal

pub returns-in-Ok : goal.returns-in-Ok
returns-in-Ok c = λ settings text pointers read at. c.told_at.ensures settings text pointers _ read at c.in-Ok.ensures.spelt

pub returns-in-Err : goal.returns-in-Err
returns-in-Err c = λ settings text pointers read at. c.in-Err.ensures.none settings text
