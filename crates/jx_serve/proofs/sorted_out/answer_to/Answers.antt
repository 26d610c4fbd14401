use Rattle.std.proofs.Common.{List, ℕ, subst}
use Rattle.jx_serve.specs.Steps.{by_fault, by_request, Turns}
use Rattle.jx_serve.proofs.sorted_out.answer_to.Goals as goal

pub returns-in-Ok-clause-turns : goal.returns-in-Ok-clause-turns
returns-in-Ok-clause-turns c =
    subst (λ (l : List ℕ). Turns l c.args.server.now c.step.new.self c.step.result) c.deref.ensures.value
    (by_request c.in-Ok.request c.in-Ok.ensures.text c.in-Ok.ensures.says c.step.ensures.steps)

pub returns-in-Err-clause-turns : goal.returns-in-Err-clause-turns
returns-in-Err-clause-turns c =
    subst (λ (l : List ℕ). Turns l c.args.server.now c.lose_by.new.server c.answer_to_fault.result) c.deref.ensures.value
    (by_fault c.in-Err.fault c.in-Err.ensures.refused c.in-Err.ensures.why c.lose_by.ensures c.answer_to_fault.ensures.reply)
