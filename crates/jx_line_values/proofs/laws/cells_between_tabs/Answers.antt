use Rattle.jx_line_values.proofs.ReadBack.{not_null, of_cells, text_of_tabs}
use Rattle.jx_line_values.proofs.laws.cells_between_tabs.Goals as goal

pub returns-clause-text : goal.returns-clause-text
returns-clause-text c none text = text_of_tabs text

pub returns-clause-whole : goal.returns-clause-whole
returns-clause-whole c none text = of_cells text

pub returns-clause-null : goal.returns-clause-null
returns-clause-null c none text = not_null text
