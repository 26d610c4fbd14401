use Rattle.std.proofs.Common.{◌≡◌, ◌≤◌, ◌<◌, ◌+◌, ◌++◌, ◌∙◌, ℕ, ap, arith, length, suc}
use Rattle.std.proofs.lemmas.Bool.Decides.{nat_tests}
use Rattle.jx_serve.specs.Words.{ends}
use Rattle.jx_serve.specs.inside.Sound.{braces}
use Rattle.jx_serve.proofs.Ranges.{ended_ranges, innermost_range}
use Rattle.jx_serve.proofs.selection_words.add_ranges.Goals as goal

pub returns : goal.returns
returns c = λ yes.
    let inner = c.args.inner in
    let long : ℕ = length c.args.outer.now in
    let low : long < 200 = grind (arith, nat_tests) in
    let few : suc long ≤ 200 = omega (arith, low) in
    let count : long + 1 ≡ suc long = omega arith in
    let first = innermost_range c.args.out.now.items c.begin_extent.new.out.items (ends inner.start inner.end) c.in_ok-begin_extent.ensures.words c.in_ok-begin_extent.ensures.value in
    ended_ranges (suc long) c.args.out.now.items c.begin_parents.new.out.items c.close.new.out.items (c.in_ok-begin_parents.ensures c.args.out.now.items first) few
    (c.in_ok-close.ensures ∙ ap (λ (k : ℕ). c.begin_parents.new.out.items ++ braces k) count)
