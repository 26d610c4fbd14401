use Rattle.jx_line_values.proofs.ReadBack.{is_field, not_none}
use Rattle.jx_line_values.proofs.laws.cells_between_commas.Goals as goal

pub returns-clause-field : goal.returns-clause-field
returns-clause-field c = is_field

pub returns-clause-null : goal.returns-clause-null
returns-clause-null c = not_none
