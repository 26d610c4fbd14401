use Rattle.std.proofs.lemmas.Result.{on_ok_weaker}
use Rattle.jx_line_values.proofs.Tells.{told_more}
use Rattle.jx_line_values.proofs.values_teller.ValuesTeller.take.Goals as goal

pub returns : goal.returns
returns c =
    on_ok_weaker c.go_on.result (λ reads task is_lost told retold bytes given h. told_more task is_lost told retold bytes given c.args.self.now _ c.args.slice.now h reads) c.go_on.ensures
