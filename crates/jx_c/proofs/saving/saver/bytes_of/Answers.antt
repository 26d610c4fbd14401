use Rattle.std.proofs.lemmas.Result.{IfOk-at_ok}
use Rattle.jx_c.specs.Saves.{IsSavedOf}
use Rattle.jx_c.proofs.saving.saver.bytes_of.Goals as goal

pub returns-in_ok-bytes-in-Ok-clause-bytes : goal.returns-in_ok-bytes-in-Ok-clause-bytes
returns-in_ok-bytes-in-Ok-clause-bytes c = λ has_names settings chunk text fed.
    let e = c.in_ok-saved.ensures in
    let index = IfOk-at_ok _ c.in-Ok.is e.index has_names settings chunk text fed in
    let is : IsSavedOf has_names settings chunk text c.in-Ok.saved = record { index = index; names = IfOk-at_ok _ c.in-Ok.is e.names has_names settings chunk text fed } in
    ((c.in-Ok.saved, is, c.in_ok-bytes-in-Ok.ensures), index.accepted)
