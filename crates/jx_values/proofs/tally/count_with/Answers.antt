use Rattle.std.proofs.Common.{sym, ◌∙◌}
use Rattle.jx_values.proofs.ElementCounts.{counted_with}
use Rattle.jx_values.proofs.tally.count_with.Goals as goal

pub returns-then-all_line_feeds : goal.returns-then-all_line_feeds
returns-then-all_line_feeds c =
    counted_with c.checked_add.result _ c.args.count c.args.bytes.now (sym c.all_line_feeds.ensures ∙ c.if-all_line_feeds.true) c.checked_add.ensures
