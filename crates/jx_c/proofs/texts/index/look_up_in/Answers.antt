use Rattle.std.proofs.Common.{List, ℕ, subst}
use Rattle.jx_c.specs.LookUps.{IsLed}
use Rattle.jx_c.proofs.Led.{in_bytes, none_refused}
use Rattle.jx_c.proofs.texts.index.look_up_in.Goals as goal

pub returns-in-Ok : goal.returns-in-Ok
returns-in-Ok c = λ settings text told.
    let x = told.1 in
    let pointer = c.args.pointer.now in
    let none = none_refused c.unique_tree_by_settings.ensures.one_tree settings text x.tree x.is_text told.0 in
    in_bytes text x.tree pointer settings x.is_text none c.in-Ok.ensures.spelt c.led.result
    (subst (λ (p : List ℕ). IsLed text x.tree p c.led.result) c.in-Ok.ensures.pointer
    (subst (λ (t : List ℕ). IsLed t x.tree c.in-Ok.read c.led.result) x.text
    (c.led.ensures settings.depth x.tree (c.index_behind_a_front.ensures.text settings text c.args.index.now x))))

pub returns-in-Err : goal.returns-in-Err
returns-in-Err c = λ settings text told. c.in-Err.ensures.none settings text
