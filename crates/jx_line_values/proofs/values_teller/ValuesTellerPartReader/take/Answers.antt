use Rattle.std.proofs.Common.{◌+◌, ℕ, refl, length, ap, subst, sym}
use Rattle.jx_line_values.specs.declared.task.LineValuesTask.{LineValuesTask}
use Rattle.jx_line_values.specs.inside.RowsPart.{IsRowsPart}
use Rattle.jx_line_values.specs.inside.ValuesTeller.{HasRead, ValuesTellerValue}
use Rattle.jx_line_values.proofs.Tells.{read_more}
use Rattle.jx_line_values.proofs.values_teller.ValuesTellerPartReader.take.Goals as goal

pub returns-clause-taken : goal.returns-clause-taken
returns-clause-taken c = λ _ xs ys gave h long part.
    let i = c.self.inside in
    let old : ValuesTellerValue = record { task = i.task.now; cutter = i.cutter; end = i.end } in
    let task : LineValuesTask = c.args._rule.now in
    let was : HasRead task xs gave old = subst (λ (v : ValuesTellerValue). HasRead task xs gave v) (sym c.self.view_is) h in
    let mine = subst (λ (t : LineValuesTask). IsRowsPart t ys c.args.part) (sym was.asked) part in
    read_more task xs ys gave old _ was refl (ap (λ (n : ℕ). i.end + n) (sym long)) (λ bytes given said t. c.in_ok-take_part.ensures bytes ys given said mine t)
