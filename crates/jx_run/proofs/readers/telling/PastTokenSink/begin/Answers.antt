use Rattle.std.proofs.Common.{◌∷◌, [], subst, sym}
use Rattle.jx_reduce.specs.KnownStack.{IsFault}
use Rattle.jx_run.proofs.Tellings.{past_begins, past_faults, stays_fault}
use Rattle.jx_run.proofs.readers.telling.PastTokenSink.begin.Goals as goal

pub returns-then-is_done-clause-seen : goal.returns-then-is_done-clause-seen
returns-then-is_done-clause-seen g c = λ marks ends h.
    past_faults g.E.Earlier.seen g.E.Earlier.stack (g.K.TokenSink.has_seen c.args.self.now.other.sink) marks ends c.args.self.now.stack h c.args.mark c.push.new.self c.push.ensures.depth c.in_ok-push.ensures.reads
    (c.is_done.ensures.0 c.if-is_done.true)

pub returns-clause-seen : goal.returns-clause-seen
returns-clause-seen g c = λ marks ends h.
    let going = c.if-is_done.false in
    past_begins g.E.Earlier.seen g.E.Earlier.stack (g.K.TokenSink.has_seen c.args.self.now.other.sink) marks ends c.args.self.now.stack h c.args.mark c.push.new.self c.push.ensures.depth c.in_ok-push.ensures.reads
    (g.K.TokenSink.has_seen c.begin.new.self) c.in_ok-begin.ensures.seen (λ f. let done = c.is_done.ensures.1 f in absurd cc)

pub returns-then-is_done-clause-turn : goal.returns-then-is_done-clause-turn
returns-then-is_done-clause-turn g c = λ going. absurd (going (c.is_done.ensures.0 c.if-is_done.true))

pub begin-requires : goal.begin-requires
begin-requires g c =
    let going = c.if-is_done.false in
    c.requires (λ f. let done = c.is_done.ensures.1 (subst IsFault (sym c.in_ok-push.ensures.reads) (stays_fault c.args.self.now.stack.depth (c.args.mark ∷ []) c.args.self.now.stack.reading f)) in absurd cc)
