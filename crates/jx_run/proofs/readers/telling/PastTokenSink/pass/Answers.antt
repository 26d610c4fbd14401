use Rattle.std.specs.Prelude.{slice_range}
use Rattle.jx_lex.specs.declared.alphabet.state.LexState.TheVariants.{Gap}
use Rattle.jx_lex.specs.Lex.{lex}
use Rattle.jx_lex.proofs.Keeping.{goes-none}
use Rattle.jx_reduce.specs.KnownStack.{IsFault}
use Rattle.jx_run.specs.inside.Past.{HasSeenPast}
use Rattle.jx_run.proofs.Tellings.{past_passes}
use Rattle.jx_run.proofs.readers.telling.PastTokenSink.pass.Goals as goal

pub returns-then-is_done-clause-read : goal.returns-then-is_done-clause-read
returns-then-is_done-clause-read g c =
    goes-none c.args.text.now c.args.from Gap (λ marks ends. HasSeenPast g.E.Earlier.seen g.E.Earlier.stack (g.K.TokenSink.has_seen c.args.self.now.other.sink) marks ends c.args.self.now.stack)

pub returns-clause-read : goal.returns-clause-read
returns-clause-read g c =
    let p = c.pass_into-end.ensures in
    let going : IsFault c.args.self.now.stack.reading → ⊥ = λ f. let done = c.is_done.ensures.1 f in absurd cc in
    let track = lex Gap c.args.from (slice_range c.args.text.now c.args.from c.pass_into-end.result) in
    record {
      seen = λ marks ends h.
          past_passes g.E.Earlier.seen g.E.Earlier.stack (g.K.TokenSink.has_seen c.args.self.now.other.sink) marks ends c.args.self.now.stack h track.marks track.ends
          (g.K.TokenSink.has_seen c.pass_into-end.new.listener.sink) c.pass_into-end.new.self p.depth p.reads (p.seen c.if-self.false) going (p.going going);
      exit = p.exit;
    }
