use Rattle.std.proofs.Common.{◌∙◌, sym}
use Rattle.jx_lex.specs.inside.Bits.{bit}
use Rattle.jx_block.proofs.Words.{left_none}
use Rattle.jx_block.proofs.WordsTell.{but}
use Rattle.jx_reduce.proofs.stack.next_words.against.Goals as goal

pub returns : goal.returns
returns c k lt none set = left_none (bit c.args.tokens k) (bit c.args.places k) (sym (but c.args.tokens c.args.places k c.ranges.places.fits lt) ∙ none) set
