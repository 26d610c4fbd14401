use Rattle.std.proofs.Common.{◌<◌, ◌≤◌, ℕ, List, length, arith}
use Rattle.jx_ndjson.specs.Lines.{is_line_feed}
use Rattle.jx_ndjson.proofs.Cuts.{none-found-before}
use Rattle.jx_ndjson.proofs.Texts.{first_line, is_not}
use Rattle.jx_ndjson.proofs.text_lines.text_line.Goals as goal

pub returns-then-branch-clause-text : goal.returns-then-branch-clause-text
returns-then-branch-clause-text c =
    let slice : List ℕ = c.args.slice.now in
    let end : ℕ = c.line_end-end.result in
    let first = c.line_end-end.ensures in
    let within : end ≤ length slice = first.high in
    let other = c.if-end-slice.false in
    let high : end < length slice = omega (arith, within, other) in
    first_line c.args.stack.now.depth slice end high (first.hit high) (none-found-before is_line_feed slice end within (λ j low feed. is_not _ (first.before j (omega arith) low) feed))
    (c.in_ok-is_text.ensures.text c.if-branch.true)
