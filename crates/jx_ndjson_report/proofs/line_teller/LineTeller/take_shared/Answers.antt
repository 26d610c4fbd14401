use Rattle.std.proofs.Common.{◌≤◌, List, ℕ, length, subst, sym}
use Rattle.std.proofs.lemmas.Result.{on_ok_weaker}
use Rattle.jx_ndjson_report.specs.inside.Shared.{SharedLinesValue}
use Rattle.jx_ndjson_report.proofs.Takes.{three_parts}
use Rattle.jx_ndjson_report.specs.inside.LineTeller.{HasTaken}
use Rattle.jx_ndjson_report.proofs.line_teller.LineTeller.take_shared.Goals as goal

pub returns : goal.returns
returns c =
    let batch : List ℕ = c.args.slice.now in
    let i : ℕ = c.shared.inside.span.start in
    let j : ℕ = c.shared.inside.span.end in
    let low : i ≤ j = subst (λ (s : SharedLinesValue). s.span.start ≤ s.span.end) (sym c.shared.view_is) c.requires.shared.ordered in
    let high : j ≤ length batch = subst (λ (s : SharedLinesValue). s.span.end ≤ length batch) (sym c.shared.view_is) c.requires.shared.within in
    record {
      taken = on_ok_weaker c.take_alone-2.result
          (λ taken bytes given h.
          subst (λ (xs : List ℕ). HasTaken c.args.task.now xs given c.take_alone-2.new.self) (three_parts bytes batch i j low high)
          (taken _ given (c.in_ok-take_judged.ensures.taken _ given (c.in_ok-take_alone.ensures.taken bytes given h)))) c.take_alone-2.ensures.taken;
    }
