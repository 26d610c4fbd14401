use Rattle.std.proofs.Common.{◌≡◌, ◌∙◌, ℕ, Option, Some, ap, sym, subst}
use Rattle.jx_ndjson.specs.LinesRun.{HoldLines, IsLinesRun, LinesRunValue}
use Rattle.jx_ndjson.specs.WholeLines.{WholeLinesValue}
use Rattle.jx_ndjson.proofs.lines_run.LinesRunSummary.join.Goals as goal

pub returns-in-Ok-clause-of : goal.returns-in-Ok-clause-of
returns-in-Ok-clause-of c = λ xs ys h k.
    let depth : ℕ = c.self.inside.depth in
    let other : ℕ = c.right.inside.depth in
    let same : other ≡ depth =
    ap (λ (r : LinesRunValue). r.depth) c.right.view_is ∙ sym c.requires.depth ∙ sym (ap (λ (r : LinesRunValue). r.depth) c.self.view_is) in
    let left : HoldLines depth xs (Some c.in-Some-Some.lines) =
    subst (λ (o : Option WholeLinesValue). HoldLines depth xs o) c.in-Some-Some.is-0 (subst (λ (r : LinesRunValue). IsLinesRun xs r) (sym c.self.view_is) h) in
    let right : HoldLines depth ys (Some c.in-Some-Some.behind) =
    subst (λ (d : ℕ). HoldLines d ys (Some c.in-Some-Some.behind)) same
    (subst (λ (o : Option WholeLinesValue). HoldLines other ys o) c.in-Some-Some.is-1 (subst (λ (r : LinesRunValue). IsLinesRun ys r) (sym c.right.view_is) k)) in
    c.in-Ok.ensures.joins depth xs ys left.0 right.0 left.1 right.1
