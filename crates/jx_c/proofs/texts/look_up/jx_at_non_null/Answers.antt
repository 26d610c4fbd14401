use Rattle.std.proofs.Common.{subst}
use Rattle.jx_run.specs.declared.texts.settings.Settings.{Settings}
use Rattle.jx_c.specs.LookUps.{IsLookUp}
use Rattle.jx_c.proofs.texts.look_up.jx_at_non_null.Goals as goal

pub returns-in-Ok-look_up-clause-answer : goal.returns-in-Ok-look_up-clause-answer
returns-in-Ok-look_up-clause-answer c = λ ok. (
  c.in-Ok-look_up.look_up,
  (
    subst (λ (s : Settings). IsLookUp s c.args.text.now c.args.pointer.now c.in-Ok-look_up.look_up) c.in-Ok.ensures.settings c.in-Ok-look_up.ensures,
    c.shown_look_up.ensures,
  ),
)
