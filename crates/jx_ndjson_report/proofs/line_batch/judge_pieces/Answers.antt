use Rattle.std.proofs.Common.{◌∙◌, ℕ, List, subst, sym}
use Rattle.std.specs.Prelude.{Option}
use Rattle.jx_ndjson.specs.LinesRun.{HoldLines, IsLinesRun, LinesRunValue}
use Rattle.jx_ndjson.specs.WholeLines.{WholeLinesValue}
use Rattle.jx_ndjson_report.proofs.Takes.{covers_all, held_len, some_held}
use Rattle.jx_ndjson_report.proofs.line_batch.judge_pieces.Goals as goal

pub returns-in-Ok : goal.returns-in-Ok
returns-in-Ok g c =
    let h = c.in-Ok.run' in
    let w = c.in-Ok.ensures in
    let text : List ℕ = c.args.lines.now in
    let run : LinesRunValue = c.into_run.result in
    let of : IsLinesRun text run =
    subst (λ (b : List ℕ). IsLinesRun b run) (covers_all h.text text h.span _ w.text_is w.span_is c.requires.front) c.into_run.ensures.of in
    let held : HoldLines c.args.depth text c.into_lines.result =
    subst (λ (o : Option WholeLinesValue). HoldLines c.args.depth text o) (sym c.into_lines.ensures.lines)
    (subst (λ (d : ℕ). HoldLines d text run.lines) (c.into_run.ensures.depth ∙ w.depth_is) of) in
    record { judged = some_held c.args.depth text c.into_lines.result held; len = held_len c.args.depth text c.into_lines.result held }
