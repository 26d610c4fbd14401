use Rattle.std.proofs.Common.{◌≡◌, ◌<◌, ◌∙◌, ℕ, List, [], length, true, rules, ap, refl, sym, subst}
use Rattle.jx_line_values.specs.inside.Cutting.{CutterValue, HasTaken}
use Rattle.jx_line_values.proofs.InFront.{no_bytes}
use Rattle.jx_line_values.proofs.Plain.{rows_taken}
use Rattle.jx_line_values.proofs.cutting.LineCutter.take_rows.Goals as goal

pub returns : goal.returns
returns c = λ task bytes ys given said p h.
    let i = c.self.inside in
    let old : CutterValue = record { kept = i.kept.items; ended = i.ended; ready = i.ready.items; told = i.told.items; exit = i.exit } in
    let is : c.is_between.result ≡ true = search rules in
    let none : i.kept.items ≡ [] = no_bytes i.kept.items (ap (λ (v : CutterValue). length v.kept) c.self.view_is ∙ c.is_between.ensures.none_kept is) in
    let behind : 0 < i.ended = subst (λ (v : CutterValue). 0 < v.ended) (sym c.self.view_is) (c.is_between.ensures.behind is) in
    rows_taken task ys c.args.count c.args.rows.now p bytes given said old _ (subst (λ (v : CutterValue). HasTaken task bytes given said v) (sym c.self.view_is) h) behind none none refl
    c.in_ok-extend_from_slice.ensures.items refl refl
