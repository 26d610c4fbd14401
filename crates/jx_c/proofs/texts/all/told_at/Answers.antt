use Rattle.std.proofs.Common.{List, Result, subst, ap, sym, ◌∙◌}
use Rattle.std.specs.Prelude.{slice_get}
use Rattle.jx_index.specs.declared.find_fault.FindFault.{FindFault}
use Rattle.jx_index.specs.declared.finder.Found.{Found}
use Rattle.jx_c.specs.Indexes.{IsReadFor}
use Rattle.jx_c.proofs.Alls.{ReadOf, found_at_place}
use Rattle.jx_c.proofs.texts.all.told_at.Goals as goal

pub returns-in-Ok : goal.returns-in-Ok
returns-in-Ok c = λ settings text pointers pointer read at spelt.
    let found = subst (λ (r : ReadOf). IsReadFor settings text pointers r) c.in-Ok.is read in
    let here = ap (λ (xs : List (Result Found FindFault)). slice_get xs c.args.number) (sym c.deref.ensures.value) ∙ c.found_at.ensures in
    c.told.ensures settings text pointer.bytes.now spelt (found_at_place settings text pointers _ c.args.number pointer c.found_at.result found at here spelt)

pub returns-in-Err : goal.returns-in-Err
returns-in-Err c = λ settings text pointers pointer read at spelt.
    c.told-in-Err.ensures settings text pointer.bytes.now spelt (subst (λ (r : ReadOf). IsReadFor settings text pointers r) c.in-Err.is read)
