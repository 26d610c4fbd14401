use Rattle.std.proofs.Common.{bit_or, arith}
use Rattle.std.specs.Prelude.{◌==◌, ◌||◌}
use Rattle.std.proofs.lemmas.Nat.{or_lt}
use Rattle.jx_lex.specs.Counts.{is_brace}
use Rattle.jx_block.proofs.BitCounts.{begins-brace, among_two, counted, token_bytes}
use Rattle.jx_block.proofs.counting.braces_of.Goals as goal

pub returns : goal.returns
returns c = λ text at starts len kinds fits short few.
    let t = c.args.kinds.now in
    counted is_brace (λ b. (b == 0x7b) || (b == 0x7d)) text at starts (bit_or t.open_objects t.close_objects) begins-brace
    (among_two text at starts t.open_objects t.close_objects (λ b. b == 0x7b) (λ b. b == 0x7d) kinds.open_objects kinds.close_objects) fits
    (token_bytes text at starts t kinds) len short few (or_lt 64 t.open_objects t.close_objects (omega arith) (omega arith))
