use Rattle.std.proofs.Common.{◌≡◌, ◌/◌, ℕ, List, length, refl, subst, Some}
use Rattle.std.specs.Prelude.{slice_get}
use Rattle.std.proofs.lemmas.Option.{slice_get_read}
use Rattle.jx_file_index.specs.declared.name_tables.NameTable.{NameTable}
use Rattle.jx_file_index.specs.NameTables.{IsWithout}
use Rattle.jx_file_index.proofs.name_tables.NameTables.may_have.Goals as goal

pub returns : goal.returns
returns c = λ none.
    let table : NameTable = c.in-Some.table.now in
    let all = c.deref.result.now in
    let at = c.args.chunk / 64 in
    let got = c.in-Some.ensures.lookup in
    record {
      table = table;
      is = subst (λ (xs : List NameTable). slice_get xs at ≡ Some table) c.deref.ensures.value (slice_get_read all (length all) at table refl got.3.0 (got.3.1 table));
      kept = c.if-not-table.false;
      without = subst (IsWithout table.keys.items) c.key_of-key.ensures (subst (λ (ks : List ℕ). IsWithout ks c.key_of-key.result) c.deref-2.ensures.value (c.has_key.ensures none));
    }
