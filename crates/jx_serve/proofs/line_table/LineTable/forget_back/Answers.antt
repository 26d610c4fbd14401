use Rattle.std.proofs.Common.{sym, subst, List}
use Rattle.jx_ndjson.specs.WholeLines.{WholeLinesValue}
use Rattle.jx_serve.specs.inside.LineTables.{AreLaid}
use Rattle.jx_serve.proofs.LineTables.{laid_forgotten}
use Rattle.jx_serve.proofs.line_table.LineTable.forget_back.Goals as goal

pub returns-clause-table : goal.returns-clause-table
returns-clause-table c = λ limit bytes h.
    let old = c.args.self.now in
    record {
      laid =
          subst (λ (l : List WholeLinesValue). AreLaid limit bytes old.front.items l 0) (sym c.clear.ensures.items)
          (laid_forgotten limit bytes old.front.items old.back.items old.behind h.laid);
      before_is = h.before_is;
    }
