use Rattle.std.proofs.Common.{◌≡◌, ◌+◌, ℕ, suc, arith, subst, sym}
use Rattle.jx_file_query.proofs.WalkComings.{some_weaker}
use Rattle.jx_file_query.specs.Cuts.{cuts_of}
use Rattle.jx_file_query.specs.Split.{IsCutAt}
use Rattle.jx_file_query.proofs.SplitComings.{cut_over}
use Rattle.jx_file_query.proofs.split_reaching.sum_over.Goals as goal

pub returns : goal.returns
returns c = some_weaker c.pass.result _ _
    (λ sum passed settings chunk text known was.
    let at = c.args.at in
    let span = c.in_ok-span.span in
    let here = c.in_ok-here.here in
    let held = cuts_of c.args.held.now in
    subst (λ (n : ℕ). IsCutAt settings chunk text c.args.aim n (record held { sum = sum })) (let e : suc at ≡ at + 1 = omega arith in e)
    (cut_over settings chunk text c.args.aim c.args.index.now known c.lex_of_two_parts.ensures.two at span here held sum c.if-at-eq0.false (sym c.in_ok-span.ensures.value)
    (c.in_ok-here.ensures.kept settings chunk text known) passed was)) c.pass.ensures
