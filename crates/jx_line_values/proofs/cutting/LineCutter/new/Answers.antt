use Rattle.std.proofs.Common.{refl}
use Rattle.jx_line_values.proofs.Cuts.{taken_none}
use Rattle.jx_line_values.proofs.cutting.LineCutter.new.Goals as goal

pub returns-clause-taken : goal.returns-clause-taken
returns-clause-taken c = λ task. taken_none task _ c.new.ensures.items refl c.new-2.ensures.items c.new-3.ensures.items refl
