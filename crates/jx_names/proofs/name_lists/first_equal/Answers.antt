use Rattle.std.proofs.Common.{◌≡◌, ℕ, suc, ◌+◌, ◌<◌, ◌≤◌, List, Option, length, drop, get_or, refl, sym, ap, subst, arith}
use Rattle.std.proofs.lemmas.List.{length-drop}
use Rattle.jx_index.specs.inside.Ties.{IsTie}
use Rattle.jx_index.proofs.Ties.{Leads, at_last, tie_step, no_more_ties}
use Rattle.jx_names.specs.declared.name_bytes.Name.{Name}
use Rattle.jx_names.specs.inside.KeptNames.{start_of, keyed_in}
use Rattle.jx_names.proofs.Apart.{no_name}
use Rattle.jx_names.proofs.name_lists.first_equal.Goals as goal

pub loop-at-preserved : goal.loop-at-preserved
loop-at-preserved c =
    let keys = keyed_in c.args.bytes.now in
    let names : List Name = c.args.names.now in
    let at : ℕ = c.loop-at.at in
    let last = c.saturating_sub-at-end.ensures in
    let test = c.loop-at-test.true in
    let low : suc at < length names = omega (arith, last, test) in
    let next : at + 1 ≡ suc at = omega arith in
    subst (λ (o : Option ℕ). Leads (IsTie keys start_of names) (IsTie keys start_of (drop (at + 1) names)) o) (sym c.earlier-first.ensures)
    (tie_step no_name keys start_of names at (at + 1) (get_or names at no_name) (get_or names (at + 1) no_name) c.loop-at.first c.start_of_equal-equal.result low next refl (ap (λ (n : ℕ). get_or names n no_name) next) c.start_of_equal-equal.ensures c.loop-at.invariant)

pub returns : goal.returns
returns c =
    let keys = keyed_in c.args.bytes.now in
    let names : List Name = c.args.names.now in
    let at : ℕ = c.loop-at.at in
    let last = c.saturating_sub-at-end.ensures in
    let test = c.loop-at-test.false in
    let long = length-drop at names in
    let short : length (drop at names) ≤ 1 = omega (arith, last, test, long) in
    at_last (IsTie keys start_of names) (IsTie keys start_of (drop at names)) c.loop-at.first c.loop-at.invariant (no_more_ties no_name keys start_of names at short)
