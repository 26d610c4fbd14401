use Rattle.std.proofs.Common.{List, ℕ, refl, sym, subst}
use Rattle.std.specs.Prelude.{IfOk}
use Rattle.std.proofs.lemmas.Result.{on_ok_weaker}
use Rattle.jx_book.specs.Gathered.{IsRest}
use Rattle.jx_run.specs.OutcomeRun.{OutcomeRunValue, IsOutcomeRun}
use Rattle.jx_answer.proofs.Whole.{covers_all}
use Rattle.jx_answer.proofs.batches.reading.go_on.Goals as goal

pub returns-in-Ok-clause-reads : goal.returns-in-Ok-clause-reads
returns-in-Ok-clause-reads c =
    let bytes = c.args.bytes.now in
    let depth = c.args.reader.now.settings.depth in
    let h = c.in-Ok.run' in
    let w = subst (λ r. IfOk r (λ k. IsRest bytes depth 0 k)) c.in-Ok.is c.requires.run in
    let of : IsOutcomeRun bytes h.run = subst (λ (b : List ℕ). IsOutcomeRun b h.run) (covers_all h.text bytes h.span 0 w.text_is w.span_is refl) c.run.ensures.of in
    let run : IsOutcomeRun bytes c.run.result.now = subst (λ (r : OutcomeRunValue). IsOutcomeRun bytes r) (sym c.run.ensures.run) of in
    on_ok_weaker c.follow.result (λ reads before read. reads before bytes read run) c.follow.ensures.reads
