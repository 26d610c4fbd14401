use Rattle.std.proofs.Common.{◌≡◌, ◌++◌, List, ℕ, ap, append_assoc, ◌∙◌}
use Rattle.std.specs.Int.{w64, to_le_bytes}
use Rattle.std.specs.List.{flat_map}
use Rattle.std.proofs.lemmas.Result.{IfOk-weaker}
use Rattle.jx_file_index.specs.Digest.{xxh64}
use Rattle.jx_file_index.specs.Spelling.{spelt_index}
use Rattle.jx_file_index.specs.declared.name_tables.NameTable.{NameTable}
use Rattle.jx_file_index.specs.TextSpelling.{names_tag, spelt_table, spelt_tables}
use Rattle.jx_file_index.proofs.text_spelling.spelt_names.Goals as goal

pub returns : goal.returns
returns c =
    let i = c.args.index.now in
    let t = c.args.names.now in
    let tables = flat_map spelt_table t.tables.items in
    let front : c.put_tables.new.out.items ≡ spelt_tables i t =
    c.in_ok-put_tables.ensures
    ∙ ap (λ (ts : List NameTable). c.extend_from_slice.new.self.items ++ flat_map spelt_table ts) c.deref.ensures.value
    ∙ ap (λ (xs : List ℕ). xs ++ tables) (c.in_ok-extend_from_slice.ensures.items ∙ ap (λ (xs : List ℕ). xs ++ names_tag) c.in_ok-bytes.ensures)
    ∙ append_assoc (spelt_index i) names_tag tables in
    IfOk-weaker c.sealed.result _ _ (λ bytes is. is ∙ ap (λ (xs : List ℕ). xs ++ to_le_bytes w64 (xxh64 xs)) front) c.sealed.ensures
