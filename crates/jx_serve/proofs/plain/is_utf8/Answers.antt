use Rattle.jx_serve.proofs.plain.is_utf8.Goals as goal

pub returns-in-Ok : goal.returns-in-Ok
returns-in-Ok c = λ yes. c.in-Ok.ensures.cases.1
