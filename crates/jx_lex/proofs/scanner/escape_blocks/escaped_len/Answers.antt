use Rattle.jx_lex.proofs.Escapes.{told_leads, words_tell}
use Rattle.jx_lex.proofs.scanner.escape_blocks.escaped_len.Goals as goal

pub returns-clause-led : goal.returns-clause-led
returns-clause-led c =
    let v = c.args.block in
    let long = c.fits-block.0 in
    let last = c.last_boundary.ensures in
    told_leads v _ _ c.last_boundary.result long
    (words_tell v long c.backslashes-backslashes.result c.letters_u.result c.short_escapes.result c.not_plain.result c.behind_odd_runs-escaped.result c.four_behind-digits.result c.not_hex.result c.last_boundary.result
    c.backslashes-backslashes.ensures c.letters_u.ensures c.short_escapes.ensures c.not_plain.ensures
    c.backslashes-backslashes.type_inv c.behind_odd_runs-escaped.type_inv c.short_escapes.type_inv
    last.few c.behind_odd_runs-escaped.ensures.first last.right last.boundary c.four_behind-digits.ensures c.not_hex.ensures)
