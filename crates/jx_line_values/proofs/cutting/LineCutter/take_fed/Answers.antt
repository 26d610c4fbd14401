use Rattle.std.proofs.Common.{◌++◌, take}
use Rattle.std.proofs.lemmas.Result.{on_ok_weaker}
use Rattle.jx_line_values.proofs.cutting.LineCutter.take_fed.Goals as goal

pub returns : goal.returns
returns c =
    on_ok_weaker c.end_line.result
    (λ ends bytes given said h. ends (bytes ++ take c.args.len c.args.slice.now) given said (c.in_ok-keep.ensures c.args.task.now bytes given said h))
    c.end_line.ensures
