use Rattle.std.proofs.Common.{arith}
use Rattle.jx_lex.proofs.Keeping.{goes-none}
use Rattle.jx_lex.proofs.scanner.pass_on.Goals as goal

pub returns-in_default : goal.returns-in_default
returns-in_default g c =
    let b = c.requires.bounds in
    record { bounds = (omega arith, b.0); read = goes-none c.args.text.now c.args.from c.args.state (g.K.TokenSink.has_seen c.args.sink.now); turn = c.requires.turn }
