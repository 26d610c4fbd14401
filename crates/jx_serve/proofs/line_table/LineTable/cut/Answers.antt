use Rattle.std.proofs.Common.{ap, sym, subst, ◌∙◌, List, ℕ, take}
use Rattle.jx_ndjson.specs.WholeLines.{WholeLinesValue}
use Rattle.jx_serve.specs.inside.LineTables.{len_of, AreLaid}
use Rattle.jx_serve.proofs.LineTables.{laid_cut}
use Rattle.jx_serve.proofs.line_table.LineTable.cut.Goals as goal

pub returns-clause-table : goal.returns-clause-table
returns-clause-table c = λ limit bytes h.
    let old = c.args.self.now in
    let n : ℕ = c.blocks_before-count.result.count in
    record {
      laid =
          subst (λ (l : List WholeLinesValue). AreLaid limit bytes l old.back.items old.behind) (sym c.truncate.ensures.items)
          (laid_cut limit bytes old.front.items old.back.items old.behind n h);
      before_is = c.blocks_before-count.ensures.bytes ∙ ap (λ (l : List WholeLinesValue). len_of (take n l)) c.deref.ensures.value ∙ ap len_of (sym c.truncate.ensures.items);
    }
