use Rattle.std.proofs.Common.{sym, subst, ap, ◌∙◌, ◌+◌, List, ℕ}
use Rattle.std.proofs.lemmas.List.Sums.{sum_by_push}
use Rattle.jx_ndjson.specs.WholeLines.{WholeLinesValue}
use Rattle.jx_serve.specs.inside.LineTables.{AreLaid, len_of}
use Rattle.jx_serve.proofs.LineTables.{laid_more}
use Rattle.jx_serve.proofs.line_table.LineTable.take_in.Goals as goal

pub returns-clause-table : goal.returns-clause-table
returns-clause-table c = λ limit bytes b h.
    let old = c.args.self.now in
    let front : List WholeLinesValue = old.front.items in
    record {
      laid =
          subst (λ (l : List WholeLinesValue). AreLaid limit bytes l old.back.items old.behind) (sym c.in_ok-push.ensures.items)
          (laid_more limit bytes front old.back.items old.before old.behind c.args.block h.before_is b h.laid);
      before_is =
          ap (λ (n : ℕ). n + c.len-len.result) h.before_is ∙ ap (λ (n : ℕ). len_of front + n) c.len-len.ensures
          ∙ sym (sum_by_push (λ (x : WholeLinesValue). x.len) front c.args.block) ∙ ap len_of (sym c.in_ok-push.ensures.items);
    }
