use Rattle.std.proofs.Common.{[], subst}
use Rattle.jx_run.specs.declared.texts.settings.Settings.{Settings}
use Rattle.jx_c.specs.Seeks.{HasSought}
use Rattle.jx_c.proofs.streams.finder.jx_finder_new_non_null.Goals as goal

pub returns-in-Ok-boxed-clause-made : goal.returns-in-Ok-boxed-clause-made
returns-in-Ok-boxed-clause-made c = λ _.
    let begun = c.in-Ok-boxed.whole.value in
    (begun, c.replace.ensures.put, subst (λ (s : Settings). HasSought s c.args.pointers.now [] begun) c.in-Ok.ensures.settings c.in-Ok-boxed.ensures)
