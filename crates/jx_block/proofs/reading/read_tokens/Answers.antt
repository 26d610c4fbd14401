use Rattle.std.proofs.Common.{arith, refl}
use Rattle.jx_block.proofs.Words.{low_kept}
use Rattle.jx_block.proofs.WordsTell.{block_read}
use Rattle.jx_block.proofs.reading.read_tokens.Goals as goal

pub judged_scalars-judged-requires-clause-begun : goal.judged_scalars-judged-requires-clause-begun
judged_scalars-judged-requires-clause-begun c k lt set = low_kept _ _ k set

pub returns-clause-marks : goal.returns-clause-marks
returns-clause-marks c =
    let cut = c.last_boundary-len.ensures in
    (block_read c.args.text.now c.args.at c.quotes-quotes.result c.backslashes-backslashes.result c.letters_where.result c.others.result c.blanks-blanks.result c.structurals-structurals.result
    c.behind_odd_runs-escaped.result c.prefix_xor-inside.result c.judged_scalars-judged.result.wrong c.last_boundary-len.result c.first_bits-starts.result
    (omega arith) c.quotes-quotes.ensures c.backslashes-backslashes.ensures c.letters_where.ensures c.others.ensures c.blanks-blanks.ensures c.structurals-structurals.ensures
    c.quotes-quotes.type_inv c.backslashes-backslashes.type_inv c.blanks-blanks.type_inv c.structurals-structurals.type_inv c.letters_where.type_inv c.behind_odd_runs-escaped.type_inv
    cut.few cut.right (cut.boundary (omega arith)) c.judged_scalars-judged.ensures.whole c.first_bits-starts.ensures.kept).0

pub returns-clause-exit : goal.returns-clause-exit
returns-clause-exit c =
    let cut = c.last_boundary-len.ensures in
    (block_read c.args.text.now c.args.at c.quotes-quotes.result c.backslashes-backslashes.result c.letters_where.result c.others.result c.blanks-blanks.result c.structurals-structurals.result
    c.behind_odd_runs-escaped.result c.prefix_xor-inside.result c.judged_scalars-judged.result.wrong c.last_boundary-len.result c.first_bits-starts.result
    (omega arith) c.quotes-quotes.ensures c.backslashes-backslashes.ensures c.letters_where.ensures c.others.ensures c.blanks-blanks.ensures c.structurals-structurals.ensures
    c.quotes-quotes.type_inv c.backslashes-backslashes.type_inv c.blanks-blanks.type_inv c.structurals-structurals.type_inv c.letters_where.type_inv c.behind_odd_runs-escaped.type_inv
    cut.few cut.right (cut.boundary (omega arith)) c.judged_scalars-judged.ensures.whole c.first_bits-starts.ensures.kept).1

pub returns-clause-few : goal.returns-clause-few
returns-clause-few c = c.first_bits-starts.ensures.few

pub returns-clause-kinds : goal.returns-clause-kinds
returns-clause-kinds c = c.in_ok-kinds.ensures.kinds c.args.text.now c.args.at (omega arith) refl
