use Rattle.std.proofs.Common.{◌≡◌, ◌+◌, ◌-◌, ◌<◌, arith, ap, subst, sym, ◌∙◌, None, Option}
use Rattle.jx_lex.specs.declared.alphabet.mark.Mark.{Mark}
use Rattle.jx_file_query.specs.Passed.{waiting}
use Rattle.jx_file_query.specs.inside.Over.{LeadsOver}
use Rattle.jx_file_query.proofs.Overs.{inside_over}
use Rattle.jx_file_query.proofs.walk_passing.pass_inside.Goals as goal

pub returns-clause-over : goal.returns-clause-over
returns-clause-over c = λ limit bytes piece marks ends h p.
    let held = c.args.held.now in
    let entry = c.args.here.now in
    let edges = c.args.edges.now in
    let n = c.in_ok-skipped.skipped - entry.sum.closed in
    let less : entry.sum.closed < held.state.skipped = omega arith in
    let more : c.in_ok-skipped.skipped ≡ held.state.skipped + entry.sum.opened = omega arith in
    subst (λ (o : Option Mark). LeadsOver bytes piece edges marks ends held entry (record { count = None; next = held.next; skipped = n; begun = o })) (sym (c.waiting.ensures ∙ ap waiting c.is_in_token.ensures))
    (inside_over bytes piece edges marks ends held entry h c.skipped_parts.ensures.inside limit n c.args.behind.now p less (c.agrees.ensures.same c.if-not-agrees.false) (omega (arith, more, less)))
