use Rattle.jx_lex.specs.declared.alphabet.state.LexState.TheVariants.{Gap}
use Rattle.jx_lex.proofs.Keeping.{goes-none}
use Rattle.jx_lex.proofs.scanner.sink.TokenSink.pass.Goals as goal

pub returns-clause-read : goal.returns-clause-read
returns-clause-read g c = goes-none c.args.text.now c.args.from Gap (g.Self.TokenSink.has_seen c.args.self.now)
