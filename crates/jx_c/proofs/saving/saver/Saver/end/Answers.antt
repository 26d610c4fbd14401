use Rattle.std.proofs.Common.{refl, subst, sym}
use Rattle.std.proofs.lemmas.Result.{IfOk-at_ok}
use Rattle.jx_c.specs.Saves.{HasRead}
use Rattle.jx_c.specs.declared.saving.saver.Saver.{Saver}
use Rattle.jx_c.proofs.saving.saver.Saver.end.Goals as goal

pub returns-in-Ok-Ok-clause-ended : goal.returns-in-Ok-Ok-clause-ended
returns-in-Ok-Ok-clause-ended c = (
  c.in-Ok-Ok.bytes,
  refl,
  λ has_names settings chunk text h.
      let here = subst (λ (s : Saver). HasRead has_names settings chunk text s) (sym c.in-Reading.ensures.value) h in
      let told = IfOk-at_ok _ c.in-Ok-Ok.field-0-is c.in-Ok-Ok.ensures.bytes has_names settings chunk text here in
      (told.1, told.0),
)
