use Rattle.std.proofs.Common.{◌≡◌, ℕ, suc, ◌+◌, ◌<◌, ◌≤◌, List, Option, length, drop, get_or, refl, sym, ap, subst, arith}
use Rattle.std.proofs.lemmas.List.{length-drop}
use Rattle.jx_summary.specs.declared.span.Span.{Span}
use Rattle.jx_run.specs.Tree.{span}
use Rattle.jx_index.specs.Units.{units_at}
use Rattle.jx_index.specs.inside.NameLists.{start_at, IsNameTie}
use Rattle.jx_index.proofs.Ties.{Leads, at_last, tie_step, no_more_ties}
use Rattle.jx_index.proofs.name_lists.first_equal.Goals as goal

pub loop-at-preserved : goal.loop-at-preserved
loop-at-preserved c =
    let text = c.args.text.now in
    let names : List Span = c.args.names.now in
    let at : ℕ = c.loop-at.at in
    let last = c.saturating_sub-at-end.ensures in
    let test = c.loop-at-test.true in
    let low : suc at < length names = omega (arith, last, test) in
    let next : at + 1 ≡ suc at = omega arith in
    let none = span 0 0 in
    subst (λ (o : Option ℕ). Leads (IsNameTie text names) (IsNameTie text (drop (at + 1) names)) o) (sym c.earlier-first.ensures)
    (tie_step none (units_at text) start_at names at (at + 1) (get_or names at none) (get_or names (at + 1) none) c.loop-at.first c.start_of_equal-equal.result low next refl (ap (λ (n : ℕ). get_or names n none) next) c.start_of_equal-equal.ensures c.loop-at.invariant)

pub returns : goal.returns
returns c =
    let text = c.args.text.now in
    let names : List Span = c.args.names.now in
    let at : ℕ = c.loop-at.at in
    let last = c.saturating_sub-at-end.ensures in
    let test = c.loop-at-test.false in
    let long = length-drop at names in
    let short : length (drop at names) ≤ 1 = omega (arith, last, test, long) in
    at_last (IsNameTie text names) (IsNameTie text (drop at names)) c.loop-at.first c.loop-at.invariant (no_more_ties (span 0 0) (units_at text) start_at names at short)
