use Rattle.std.proofs.Common.{◌≡◌, ℕ, List, ◌-◌, ◌≤◌, ◌++◌, [], length, take, subst, arith}
use Rattle.std.specs.Prelude.{IfSome, Option, slice_range}
use Rattle.std.proofs.lemmas.List.Edits.{length-between}
use Rattle.jx_ndjson.proofs.Tallies.{one_step}
use Rattle.jx_line_values.specs.inside.RowsPart.{IsRowsPart}
use Rattle.jx_line_values.proofs.rows_part.rows_of_part.Goals as goal

pub loop-at-preserved : goal.loop-at-preserved
loop-at-preserved c =
    let task = c.args.task.now in
    let lines : List ℕ = c.args.lines.now in
    let at : ℕ = c.loop-at.at in
    let n : ℕ = c.in-Some.count in
    let rest : List ℕ = slice_range lines at (length lines) in
    let within : at ≤ length lines = c.loop-at.invariant.within in
    let long : length rest ≡ length lines - at = length-between lines at (length lines) (omega arith) in
    let step : n ≤ length rest = subst (λ (o : Option ℕ). IfSome o (λ taken. taken ≤ length rest)) c.in-Some.is c.in_ok-add_step.ensures.within in
    let low : n ≤ length lines - at = omega (arith, long, step) in
    let adds : (bytes : List ℕ) → IsRowsPart task bytes c.loop-at.part → IsRowsPart task (bytes ++ take n rest) c.add_step.new.self =
    subst (λ (o : Option ℕ). IfSome o (λ taken. (bytes : List ℕ) → IsRowsPart task bytes c.loop-at.part → IsRowsPart task (bytes ++ take taken rest) c.add_step.new.self)) c.in-Some.is
    c.in_ok-add_step.ensures.taken in
    record {
      within = omega (arith, low, within);
      made = subst (λ (xs : List ℕ). IsRowsPart task xs c.add_step.new.self) (one_step [] lines at n within low) (adds (take at lines) c.loop-at.invariant.made);
    }
