use Rattle.std.proofs.lemmas.Result.{on_ok_weaker}
use Rattle.jx_ndjson_report.proofs.line_teller.LineTeller.take_judged.Goals as goal

pub returns-then-is_between-clause-taken : goal.returns-then-is_between-clause-taken
returns-then-is_between-clause-taken c =
    on_ok_weaker c.take_whole.result
    (λ taken bytes given h. (taken bytes given c.args.slice.now c.requires.whole.0 h c.requires.whole.1).0) c.take_whole.ensures.taken
