use Rattle.jx_lex.proofs.Running.{lex-keeps, lex-leads}
use Rattle.jx_lex.proofs.laws.skipped_bytes_without_events.Goals as goal

pub returns : goal.returns
returns c = record { kept = lex-keeps; led = lex-leads }
