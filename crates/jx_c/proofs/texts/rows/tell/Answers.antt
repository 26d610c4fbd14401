use Rattle.std.proofs.Common.{◌≡◌, List, Vec, Global, length, ap, subst, ◌∙◌}
use Rattle.std.specs.Prelude.{IfOk, Result}
use Rattle.jx_run.specs.declared.texts.verdict.Refusal.{Refusal}
use Rattle.jx_run.specs.declared.texts.verdict.Verdict.TheVariants as verdict
use Rattle.jx_index.specs.RowsAlone.{AreRowsBy}
use Rattle.jx_index.specs.Rows.{rows}
use Rattle.jx_index.specs.declared.row.Row.{Row}
use Rattle.jx_c.specs.Buffers.{IsFilled}
use Rattle.jx_c.specs.Rows.{shown_row}
use Rattle.jx_c.proofs.texts.rows.tell.Goals as goal

pub returns-in-Ok : goal.returns-in-Ok
returns-in-Ok c = λ settings bytes told refused.
    let h : AreRowsBy settings bytes c.in-Ok.made.items = subst (λ (r : Result (Vec Row Global) Refusal). IfOk r (λ (made : Vec Row Global). AreRowsBy settings bytes made.items)) c.in-Ok.is told in
    let x = h.1 in
    let all : c.as_slice-all.result.now ≡ rows x.tree = c.as_slice-all.ensures.value ∙ x.rows_are in (
      verdict.Accepted,
      h.0,
      c.shown.ensures,
      (
        x.tree,
        x.is_text,
        ap length all,
        subst (λ (xs : List Row). IsFilled shown_row c.args.rows.now c.fill.new.buffer xs) all c.fill.ensures,
      ),
    )
