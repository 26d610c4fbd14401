use Rattle.std.proofs.Common.{sym, subst, ap, refl, ◌∙◌, ◌-◌, List, ℕ, take, drop}
use Rattle.std.specs.Prelude.{Vec}
use Rattle.std.specs.Global.{Global}
use Rattle.jx_ndjson.specs.WholeLines.{WholeLinesValue}
use Rattle.jx_serve.specs.declared.line_table.LineTable.{LineTable}
use Rattle.jx_serve.specs.inside.LineTables.{len_of, IsTable}
use Rattle.jx_serve.proofs.LineTables.{laid_back, laid_same}
use Rattle.jx_serve.proofs.line_table.LineTable.put_back.Goals as goal

pub returns-in-Ok-clause-table : goal.returns-in-Ok-clause-table
returns-in-Ok-clause-table c = λ limit bytes long there h.
    let old = c.args.self.now in
    let front : List WholeLinesValue = old.front.items in
    let left : ℕ = c.args.len - c.args.start in
    record {
      laid =
          laid_same limit bytes (take c.args.count front) (drop c.args.count front) c.split_off.new.self.items c.in-Ok.back.items left left c.in-Ok.ensures.items c.in-Ok.ensures.tail refl
          (laid_back limit bytes front old.back.items old.behind c.args.count c.args.len c.args.start c.requires.alone long there h.laid);
      before_is = there ∙ ap len_of (sym c.in-Ok.ensures.items);
    }

pub returns-in-Err-clause-table : goal.returns-in-Err-clause-table
returns-in-Err-clause-table c = λ limit bytes long there h.
    let old = c.args.self.now in
    let with : Vec WholeLinesValue Global → LineTable = λ front. record { front = front; before = old.before; back = old.back; behind = old.behind } in
    subst (λ (v : Vec WholeLinesValue Global). IsTable limit bytes (with v)) (sym c.in-Err.ensures.err) h
