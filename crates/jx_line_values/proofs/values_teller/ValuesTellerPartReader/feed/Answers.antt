use Rattle.std.proofs.lemmas.Result.{on_ok_weaker}
use Rattle.jx_line_values.proofs.values_teller.ValuesTellerPartReader.feed.Goals as goal

pub returns : goal.returns
returns c = record { read = on_ok_weaker c.go_on.result (λ reads xs given h. reads c.args._rule.now xs given h) c.go_on.ensures }
