use Rattle.std.proofs.Common.{[], subst, ℕ}
use Rattle.jx_run.specs.declared.texts.settings.Settings.{Settings}
use Rattle.jx_c.specs.Saves.{HasRead}
use Rattle.jx_c.specs.Settings.{settings_in}
use Rattle.jx_c.proofs.saving.save.begin.Goals as goal

pub returns-in-Ok-boxed-clause-made : goal.returns-in-Ok-boxed-clause-made
returns-in-Ok-boxed-clause-made c = λ _.
    let begun = c.in-Ok-boxed.whole.value in
    let by_size = subst (λ (s : Settings). HasRead c.args.has_names s c.in-Some.size [] begun) c.in-Ok.ensures.settings c.in-Ok-boxed.ensures in
    (begun, c.replace.ensures.put, subst (λ (n : ℕ). HasRead c.args.has_names (settings_in c.args.settings.now) n [] begun) c.in-Some.ensures.value by_size)
