use Rattle.std.proofs.Common.{[]}
use Rattle.jx_parallel_report.proofs.elements_report.told_at.Goals as goal

pub returns-clause-ok : goal.returns-clause-ok
returns-clause-ok g c =
    let all = c.in_ok-read_by_parts.ensures.read [] c.new-reader.ensures in
    (all.text, all.whole, c.in_ok-told.ensures all.text all.read)
