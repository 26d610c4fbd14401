use Rattle.std.proofs.Common.{map, subst, ◌∙◌}
use Rattle.std.specs.Prelude.{string_bytes}
use Rattle.jx_report.specs.inside.Batches.{IsReadingOf}
use Rattle.jx_report.proofs.BatchSteps.{names_long}
use Rattle.jx_report.proofs.reading.Reading.end.Goals as goal

pub returns-in-Elements-clause-length : goal.returns-in-Elements-clause-length
returns-in-Elements-clause-length c = λ task settings text h.
    let was = subst (IsReadingOf task settings text) c.in-Elements.is h in
    c.end-in-Elements.ensures.length settings text was.1

pub returns-in-Pointers-clause-length : goal.returns-in-Pointers-clause-length
returns-in-Pointers-clause-length c = λ task settings text h.
    let was = subst (IsReadingOf task settings text) c.in-Pointers.is h in
    c.end-in-Pointers.ensures.length settings (map string_bytes was.spelt.items) text was.looked_up

pub returns-in-Names-clause-length : goal.returns-in-Names-clause-length
returns-in-Names-clause-length c = λ task settings text h.
    let was = subst (IsReadingOf task settings text) c.in-Names.is h in
    c.end-in-Names.ensures ∙ names_long settings text _ was.1
