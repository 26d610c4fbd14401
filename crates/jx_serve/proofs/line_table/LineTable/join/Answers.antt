use Rattle.std.proofs.Common.{refl, List, [], ◌++◌}
use Rattle.jx_ndjson.specs.WholeLines.{WholeLinesValue}
use Rattle.jx_serve.proofs.LineTables.{laid_joined, laid_same}
use Rattle.jx_serve.proofs.line_table.LineTable.join.Goals as goal

pub returns : goal.returns
returns c = record {
  table = λ limit bytes long met h.
      let old = c.args.self.now in
      let front : List WholeLinesValue = old.front.items in
      let back : List WholeLinesValue = old.back.items in
      c.cut.ensures.table limit bytes
      (laid_same limit bytes (front ++ back) [] c.append.new.self.items c.append.new.other.items 0 0 c.in_ok-append.ensures.items c.in_ok-append.ensures.other_items refl
      (laid_joined limit bytes front back old.before old.behind c.args.len h.before_is long met h.laid));
}
