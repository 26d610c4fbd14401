use Rattle.std.proofs.Common.{◌≡◌, ◌≤◌, ◌∙◌, ap, arith, drop, length, min, take}
use Rattle.std.proofs.lemmas.List.{length-take}
use Rattle.std.proofs.lemmas.List.Sums.{count_by-le-length}
use Rattle.std.proofs.lemmas.Simd.{ones-mask_l}
use Rattle.std.specs.Int.RustNames.{count_ones}
use Rattle.jx_file_lines.specs.Lines.{feeds_in, is_line_feed}
use Rattle.jx_file_lines.proofs.counting.feeds_at.Goals as goal

pub returns-clause-value : goal.returns-clause-value
returns-clause-value c = ap count_ones c.feed_mask.ensures ∙ ones-mask_l is_line_feed (take 64 (drop c.args.i c.args.text.now))

pub returns-clause-within : goal.returns-clause-within
returns-clause-within c =
    let block = take 64 (drop c.args.i c.args.text.now) in
    let l : length block ≡ min 64 (length (drop c.args.i c.args.text.now)) = length-take 64 (drop c.args.i c.args.text.now) in
    let few : feeds_in block ≤ length block = count_by-le-length is_line_feed block in
    let e : count_ones c.feed_mask.result ≡ feeds_in block = ap count_ones c.feed_mask.ensures ∙ ones-mask_l is_line_feed block in
    omega (arith, l, few, e)
