use Rattle.jx_serve.proofs.line_table.LineTable.open.Goals as goal

pub returns-clause-table : goal.returns-clause-table
returns-clause-table c = λ limit bytes long h.
    let aside = c.set_aside.ensures.table limit bytes long h in
    c.cut.ensures.table limit bytes aside.laid
