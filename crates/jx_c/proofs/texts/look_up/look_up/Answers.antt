use Rattle.std.proofs.Common.{List, ℕ, subst, sym}
use Rattle.jx_c.specs.LookUps.{IsLookUp, IsSpelt}
use Rattle.jx_c.proofs.texts.look_up.look_up.Goals as goal

pub returns-in_ok-answer-in-Ok : goal.returns-in_ok-answer-in-Ok
returns-in_ok-answer-in-Ok c =
    subst (λ (p : List ℕ). IsLookUp c.args.settings.now c.args.text.now p c.in_ok-answer-in-Ok.answer) c.in-Ok.ensures.pointer
    (c.in_ok-answer-in-Ok.ensures (subst IsSpelt (sym c.in-Ok.ensures.pointer) c.in-Ok.ensures.spelt))

pub returns-in-Err : goal.returns-in-Err
returns-in-Err c = c.in-Err.ensures.none c.args.settings.now c.args.text.now
