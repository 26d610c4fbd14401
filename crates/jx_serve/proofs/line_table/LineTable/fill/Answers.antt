use Rattle.std.proofs.Common.{◌≡◌, ◌+◌, arith, sym, List, ℕ}
use Rattle.jx_serve.specs.inside.LineTables.{IsTable}
use Rattle.jx_serve.proofs.LineTables.{table_len}
use Rattle.jx_serve.proofs.line_table.LineTable.fill.Goals as goal

pub returns-then-saturating_add-len : goal.returns-then-saturating_add-len
returns-then-saturating_add-len c =
    let bytes : List ℕ = c.args.document.now.bytes in
    let table : IsTable c.args.depth bytes c.read_gap.new.self = c.read_gap.ensures in
    let within = table_len c.args.depth bytes c.read_gap.new.self table in
    let len = c.len-len.ensures in
    let added = c.saturating_add.ensures in
    let test = c.if-saturating_add-len.true in
    let met : c.read_gap.new.self.before + c.read_gap.new.self.behind ≡ c.len-len.result = omega (arith, within, len, added, test) in
    c.join.ensures.table c.args.depth bytes (sym c.len-len.ensures) met table
