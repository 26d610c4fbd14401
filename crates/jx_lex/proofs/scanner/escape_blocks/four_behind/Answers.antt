use Rattle.jx_lex.proofs.Bits.{four_up}
use Rattle.jx_lex.proofs.scanner.escape_blocks.four_behind.Goals as goal

pub returns : goal.returns
returns c k j low high lt set = four_up c.args.units k j low high lt set
