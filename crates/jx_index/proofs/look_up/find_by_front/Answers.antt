use Rattle.std.proofs.Common.{◌≡◌, ℕ, List, length, get_or, sym, ap, subst, ◌∙◌, arith}
use Rattle.std.specs.List.Sorted.{IsNonDecreasing}
use Rattle.std.proofs.lemmas.List.{length-map}
use Rattle.jx_index.specs.declared.units.Spelling.TheVariants.{InToken}
use Rattle.jx_index.specs.inside.NameFronts.{front_at}
use Rattle.jx_index.specs.Leads.{only}
use Rattle.jx_index.specs.Names.{is_below}
use Rattle.jx_index.specs.RowsLead.{is_equal}
use Rattle.jx_index.specs.Units.{chars_units}
use Rattle.jx_index.proofs.Halving.{pass_between, sorted_between}
use Rattle.jx_index.proofs.NameFronts.{fronts_rise, other_front}
use Rattle.jx_index.proofs.look_up.find_by_front.Goals as goal

pub equal_fronts-equal-requires : goal.equal_fronts-equal-requires
equal_fronts-equal-requires c =
    record { rising = subst IsNonDecreasing (sym c.requires.fronts) (fronts_rise c.args.text.now c.args.rows.now c.args.names.now c.requires.rising) }

pub find_name-requires : goal.find_name-requires
find_name-requires c = sorted_between (is_below c.args.text.now c.args.rows.now) c.args.names.now c.equal_fronts-equal.result.start c.equal_fronts-equal.result.end c.requires.rising

pub returns : goal.returns
returns c =
    let text = c.args.text.now in
    let rows = c.args.rows.now in
    let names = c.args.names.now in
    let units = chars_units InToken 0 c.args.name.now in
    let from = c.equal_fronts-equal.result.start in
    let to = c.equal_fronts-equal.result.end in
    let e = c.equal_fronts-equal.ensures in
    let long : length c.args.fronts.now ≡ length names = ap length c.requires.fronts ∙ length-map names (front_at text rows) in
    c.find_name.ensures
    ∙ ap (λ (x : List ℕ). only x c.args.token) (sym (pass_between (is_equal text rows units) names from to e.ordered
    (λ k low within. other_front text rows names units k within (λ h. e.before k low (ap (λ (xs : List ℕ). get_or xs k 0) c.requires.fronts ∙ h ∙ sym c.front_of.ensures)))
    (λ k high within. other_front text rows names units k within (λ h. e.behind k high (omega (arith, long, within)) (ap (λ (xs : List ℕ). get_or xs k 0) c.requires.fronts ∙ h ∙ sym c.front_of.ensures)))))
