use Rattle.std.proofs.Common.{◌∙◌}
use Rattle.std.proofs.lemmas.Bool.{and_right}
use Rattle.jx_lex.proofs.Bits.{bit-and, bit-up_first}
use Rattle.jx_block.proofs.strings.behind_odd_runs.Goals as goal

pub returns : goal.returns
returns c = record { first = bit-and _ _ 0 ∙ and_right _ _ (bit-up_first c.args.backslashes) }
