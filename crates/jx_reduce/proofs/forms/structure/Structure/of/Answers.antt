use Rattle.std.proofs.Common.{◌≤◌, ◌<◌}
use Rattle.std.proofs.lemmas.Result.{IfOk-weaker}
use Rattle.jx_reduce.proofs.Structures.{AreIn_more}
use Rattle.jx_reduce.proofs.forms.structure.Structure.of.Goals as goal

pub read_on-requires : goal.read_on-requires
read_on-requires c =
    record { behind = record { between = 0; left = AreIn_more (λ p. (0 ≤ p) × (p < 0)) (λ p. p < 0) c.new.result (λ p h. h.1) (c.new.ensures.offsets 0 0); right = c.requires.rising } }

pub returns-clause-offsets : goal.returns-clause-offsets
returns-clause-offsets c = IfOk-weaker c.read_on.result _ _ (λ f h low high a. h low high (c.new.ensures.offsets low high) a) c.read_on.ensures.offsets
