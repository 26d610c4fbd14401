use Rattle.jx_lex.proofs.Escapes.{digit_is_hex}
use Rattle.jx_lex.proofs.scanner.escape_blocks.not_hex.Goals as goal

pub returns : goal.returns
returns c = digit_is_hex c.args.block c.fits-block.0 c.args.digits c.hex_digits.result c.hex_digits.ensures c.hex_digits.type_inv
