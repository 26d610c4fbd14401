use Rattle.std.proofs.Common.{take, ap}
use Rattle.jx_wire.proofs.FieldSteps.{names_it}
use Rattle.jx_wire.proofs.field.names_length.Goals as goal

pub returns : goal.returns
returns c =
    names_it c.eq_ignore_ascii_case.result c.args.line.now (take c.min.result c.args.line.now) (ap (λ k. take k c.args.line.now) c.min.ensures) c.eq_ignore_ascii_case.ensures.test
