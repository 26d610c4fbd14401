use Rattle.std.proofs.Common.{refl}
use Rattle.jx_line_values.proofs.PartRows.{none_made}
use Rattle.jx_line_values.proofs.rows_part.RowsPart.new.Goals as goal

pub returns : goal.returns
returns c = λ task. none_made task _ c.new.ensures.items refl c.new-2.ensures.items
