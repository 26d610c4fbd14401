use Rattle.std.proofs.Common.{refl}
use Rattle.jx_values.proofs.Keeps.{none_kept}
use Rattle.jx_values.proofs.kept.Kept.new.Goals as goal

pub returns : goal.returns
returns c = λ text. none_kept text 0 c.new.result.items refl c.new.ensures.items
