use Rattle.std.proofs.Common.{take}
use Rattle.jx_parallel.proofs.GoesOn.{feeds, stays}
use Rattle.jx_parallel.proofs.taking.read_there.Goals as goal

pub returns-then-count-eq0-clause-read : goal.returns-then-count-eq0-clause-read
returns-then-count-eq0-clause-read g c = stays (g.F.SharedAt.content c.args.file.now) (g.L.PartReader.has_read c.args.rule.now) c.args.reader.now

pub returns-clause-read : goal.returns-clause-read
returns-clause-read g c =
    feeds (g.F.SharedAt.content c.args.file.now) (g.L.PartReader.has_read c.args.rule.now) c.args.reader.now c.feed.new.self c.end-at.result (take c.in_ok-count.count c.read_some.new.buffer)
    (c.end-at.ensures.length c.args.rule.now) c.in_ok-count.ensures.bytes c.in_ok-feed.ensures.read
