use Rattle.std.proofs.Common.{ap}
use Rattle.std.specs.Prelude.{reverse}
use Rattle.jx_names.proofs.Standing.{stands_first}
use Rattle.jx_names.proofs.open_names.OpenNames.new.Goals as goal

pub returns : goal.returns
returns c = λ text. stands_first text _ _ _ (ap reverse c.new.ensures.items) c.new-2.ensures.items c.new-3.ensures.items
