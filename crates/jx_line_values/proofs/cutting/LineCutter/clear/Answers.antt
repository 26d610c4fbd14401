use Rattle.std.proofs.Common.{◌∙◌, ◌++◌, List, ℕ, ap, refl, sym, subst}
use Rattle.jx_line_values.specs.inside.Adding.{exit_past}
use Rattle.jx_line_values.specs.inside.Cutting.{CutterValue, HasTaken}
use Rattle.jx_line_values.proofs.Cuts.{gives}
use Rattle.jx_line_values.proofs.cutting.LineCutter.clear.Goals as goal

pub returns-clause-taken : goal.returns-clause-taken
returns-clause-taken c = λ task bytes given said h.
    let i = c.self.inside in
    let old : CutterValue = record { kept = i.kept.items; ended = i.ended; ready = i.ready.items; told = i.told.items; exit = i.exit } in
    let new : CutterValue = record { kept = i.kept.items; ended = i.ended; ready = c.clear.new.self.items; told = c.clear-2.new.self.items; exit = c.exit_past-self-inside.result } in
    subst (λ (v : CutterValue). HasTaken task bytes (given ++ v.ready) (said ++ v.told) new) c.self.view_is
    (gives task bytes given said old new (subst (λ (v : CutterValue). HasTaken task bytes given said v) (sym c.self.view_is) h) refl refl c.clear.ensures.items c.clear-2.ensures.items
    (c.exit_past-self-inside.ensures ∙ ap (λ (t : List ℕ). exit_past i.exit t) c.deref.ensures.value))
