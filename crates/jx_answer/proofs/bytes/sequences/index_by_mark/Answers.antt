use Rattle.std.proofs.Common.{ℕ, List, sym, subst}
use Rattle.jx_run.specs.SeqRun.{IsSeqRun, SeqRunValue}
use Rattle.jx_answer.proofs.Whole.{covers_all}
use Rattle.jx_answer.proofs.bytes.sequences.index_by_mark.Goals as goal

pub elements_of-requires-clause-of : goal.elements_of-requires-clause-of
elements_of-requires-clause-of g c =
    let h = c.in_ok-run.run' in
    let w = c.in_ok-run.ensures.rest in
    let text = c.args.text.now in
    subst (λ (r : SeqRunValue). IsSeqRun text r) (sym c.run-2.ensures.run)
    (subst (λ (b : List ℕ). IsSeqRun b h.run) (covers_all h.text text h.span c.args.cutting.now.front w.text_is w.span_is c.requires.front) c.run-2.ensures.of)
