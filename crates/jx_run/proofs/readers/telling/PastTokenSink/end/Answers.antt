use Rattle.jx_run.proofs.Tellings.{past_ends}
use Rattle.jx_run.proofs.readers.telling.PastTokenSink.end.Goals as goal

pub returns-clause-seen : goal.returns-clause-seen
returns-clause-seen g c = λ marks ends h.
    let going = c.if-is_done.false in
    past_ends g.E.Earlier.seen g.E.Earlier.stack (g.K.TokenSink.has_seen c.args.self.now.other.sink) marks ends c.args.self.now.stack h c.args.at (g.K.TokenSink.has_seen c.end.new.self) c.in_ok-end.ensures.seen
    (λ f. let done = c.is_done.ensures.1 f in absurd cc)

pub returns-then-is_done-clause-turn : goal.returns-then-is_done-clause-turn
returns-then-is_done-clause-turn g c = λ going. absurd (going (c.is_done.ensures.0 c.if-is_done.true))

pub end-requires : goal.end-requires
end-requires g c =
    let going = c.if-is_done.false in
    c.requires (λ f. let done = c.is_done.ensures.1 f in absurd cc)
