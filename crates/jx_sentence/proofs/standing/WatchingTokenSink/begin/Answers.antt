use Rattle.std.proofs.Common.{refl}
use Rattle.jx_sentence.proofs.Behind.{watched_mark}
use Rattle.jx_sentence.proofs.standing.WatchingTokenSink.begin.Goals as goal

pub returns-clause-seen : goal.returns-clause-seen
returns-clause-seen c = λ marks ends seen.
    watched_mark marks ends c.args.mark c.args.self.now.stack c.push.new.self c.args.self.now.token c.args.mark.at refl c.push.ensures.depth c.in_ok-push.ensures.marks seen
