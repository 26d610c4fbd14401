use Rattle.std.proofs.Common.{◌++◌, refl, sym, subst}
use Rattle.std.proofs.lemmas.Result.{on_ok_weaker}
use Rattle.jx_line_values.specs.inside.Cutting.{CutterValue, HasTaken}
use Rattle.jx_line_values.proofs.Cuts.{takes_more}
use Rattle.jx_line_values.proofs.Verdicts.{on_ok_first}
use Rattle.jx_line_values.proofs.cutting.LineCutter.keep.Goals as goal

pub returns : goal.returns
returns c =
    let i = c.self.inside in
    let old : CutterValue = record { kept = i.kept.items; ended = i.ended; ready = i.ready.items; told = i.told.items; exit = i.exit } in
    on_ok_weaker c.extend_from_slice.result
    (λ e task before given said h.
    takes_more task before c.args.bytes.now given said old _ (subst (λ (v : CutterValue). HasTaken task before given said v) (sym c.self.view_is) h) c.requires e refl refl refl refl)
    (on_ok_first c.extend_from_slice.result c.extend_from_slice.new.self.items (i.kept.items ++ c.args.bytes.now) i.kept.items c.extend_from_slice.ensures.items)
