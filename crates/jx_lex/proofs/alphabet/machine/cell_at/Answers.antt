use Rattle.jx_lex.proofs.CellTable.{cell_moves}
use Rattle.jx_lex.proofs.alphabet.machine.cell_at.Goals as goal

pub returns : goal.returns
returns c = record { moves = cell_moves c.args.state c.args.byte c.class_of.result _ _ c.class_of.ensures.found }
