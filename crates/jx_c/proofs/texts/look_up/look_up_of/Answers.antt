use Rattle.std.proofs.Common.{refl, sym, ◌∙◌}
use Rattle.jx_index.specs.Leads.{led}
use Rattle.jx_index.specs.Pointers.{tokens}
use Rattle.jx_c.proofs.Led.{lost_at, value_at}
use Rattle.jx_c.proofs.texts.look_up.look_up_of.Goals as goal

pub returns-in-Ok : goal.returns-in-Ok
returns-in-Ok c = λ text tree pointer is. value_at text tree pointer c.in-Ok.value (led text tree (tokens pointer)) refl (sym c.in-Ok.is ∙ is)

pub returns-in-Err : goal.returns-in-Err
returns-in-Err c = λ text tree pointer is. lost_at text tree pointer c.in-Err.fault (led text tree (tokens pointer)) (sym c.in-Err.is ∙ is)
