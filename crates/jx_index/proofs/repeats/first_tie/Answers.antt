use Rattle.std.proofs.Common.{◌≡◌, ℕ, suc, ◌+◌, ◌<◌, ◌≤◌, List, Option, length, drop, get_or, sym, ap, subst, ◌∙◌, arith}
use Rattle.std.proofs.lemmas.List.{get_or_default, length-drop}
use Rattle.jx_index.specs.inside.Ties.{IsRowTie}
use Rattle.jx_index.specs.Names.{name_units}
use Rattle.jx_index.specs.Nodes.{name_at}
use Rattle.jx_index.specs.Repeats.{start_in}
use Rattle.jx_index.proofs.Ties.{Leads, at_last, tie_step, no_more_ties}
use Rattle.jx_index.proofs.repeats.first_tie.Goals as goal

pub loop-at-preserved : goal.loop-at-preserved
loop-at-preserved c =
    let text = c.args.text.now in
    let rows = c.args.rows.now in
    let names : List ℕ = c.args.names.now in
    let at : ℕ = c.loop-at.at in
    let a = c.index-names-at.result in
    let b = c.index-names-at-in-loop-at.result in
    let last = c.saturating_sub-at-end.ensures in
    let test = c.loop-at-test.true in
    let low : suc at < length names = omega (arith, last, test) in
    let first : at < length names = omega (arith, low) in
    let second : at + 1 < length names = omega (arith, low) in
    let next : at + 1 ≡ suc at = omega arith in
    let a_is : a ≡ get_or names at 0 = c.index-names-at.is ∙ get_or_default names at a 0 first in
    let b_is : b ≡ get_or names (suc at) 0 = c.index-names-at-in-loop-at.is ∙ get_or_default names (at + 1) b 0 second ∙ ap (λ (n : ℕ). get_or names n 0) next in
    subst (λ (o : Option ℕ). Leads (IsRowTie text rows names) (IsRowTie text rows (drop (at + 1) names)) o) (sym c.earlier-first.ensures)
    (tie_step 0 (name_units text rows) (λ node. start_in (name_at rows node)) names at (at + 1) a b c.loop-at.first c.start_of_tie-tie.result low next a_is b_is c.start_of_tie-tie.ensures c.loop-at.invariant)

pub returns : goal.returns
returns c =
    let text = c.args.text.now in
    let rows = c.args.rows.now in
    let names : List ℕ = c.args.names.now in
    let at : ℕ = c.loop-at.at in
    let last = c.saturating_sub-at-end.ensures in
    let test = c.loop-at-test.false in
    let long = length-drop at names in
    let short : length (drop at names) ≤ 1 = omega (arith, last, test, long) in
    at_last (IsRowTie text rows names) (IsRowTie text rows (drop at names)) c.loop-at.first c.loop-at.invariant (no_more_ties 0 (name_units text rows) (λ node. start_in (name_at rows node)) names at short)
