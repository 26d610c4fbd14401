use Rattle.std.proofs.Common.{◌≡◌, ◌+◌, ℕ, suc, refl, arith}
use Rattle.jx_line_values.proofs.PartRows.{row_made}
use Rattle.jx_line_values.proofs.rows_part.RowsPart.add_row.Goals as goal

pub returns : goal.returns
returns c = λ task bytes bare unfed plain h.
    let n : ℕ = c.args.self.now.count in
    let next : n + 1 ≡ suc n = omega arith in
    row_made task bytes bare c.args.row.now c.args.self.now _ h unfed plain refl next c.in_ok-extend_from_slice.ensures.items
