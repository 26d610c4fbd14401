-- What is kept of names fits the bytes of tables, and these are saved beside the index of their text.
use Rattle.std.proofs.Common.{◌≡◌, ℕ, ◌≤◌, List, [], ◌∷◌, ◌++◌, length, sym, ap, subst, ◌∙◌, arith, Bool, true, false, Option, None, Some}
use Rattle.std.specs.Prelude.{not}
use Rattle.std.specs.List.{AllByRecursion}
use Rattle.std.specs.List.Sorted.{IsPermutation}
use Rattle.std.proofs.SliceLists.{all_by_recursion_push}
use Rattle.std.proofs.lemmas.List.Elements.{All-from_recursion, recursion_from_All}
use Rattle.std.proofs.lemmas.List.Sorted.{All-permutation, length_permutation}
use Rattle.std.proofs.lemmas.List.{nil_from_length}
use Rattle.jx_run.specs.declared.texts.settings.Settings.{Settings}
use Rattle.jx_file_index.specs.declared.index.Index.{Index}
use Rattle.jx_file_index.specs.Chunks.{IsCount}
use Rattle.jx_file_index.specs.Index.{IsIndexOf}
use Rattle.jx_file_index.specs.declared.name_tables.NameTable.{NameTable}
use Rattle.jx_file_index.specs.declared.name_tables.NameTables.{NameTables}
use Rattle.jx_file_build.specs.TextTables.{HasNames, HasTables}
use Rattle.jx_file_index.specs.SavedTexts.{FitsKeys, FitsTable, HasItsTables, HasTablesToo, IsWord}
use Rattle.jx_file_build.specs.declared.named_chunks.NamedChunks.{NamedChunks}
use Rattle.jx_file_build.specs.inside.NameBlocks.{IsKeyCount}
use Rattle.jx_file_build.specs.inside.NamedChunks.{AreFit, FitChunks, FitTables}

-- ---- the keys of a block

pub none_fit : (keys : List ℕ) → keys ≡ [] → FitsKeys true keys
none_fit keys none = subst (FitsKeys true) (sym none) (omega arith, tt)

-- more keys of a block that has not too many
pub more_fit : (full : Bool) (old new : List ℕ) (most : ℕ) → full ≡ false → (AllByRecursion IsWord old → AllByRecursion IsWord new) → length new ≤ most → IsKeyCount most
    → FitsKeys (not full) old → FitsKeys true new
more_fit true old new most room words low few was = absurd cc
more_fit false old new most room words low few was = (omega (arith, low, few), words was.1)

-- in another order
pub sorted_fit : (kept : Bool) (keys sorted : List ℕ) → IsPermutation keys sorted → FitsKeys kept keys → FitsKeys kept sorted
sorted_fit true keys sorted same fits =
    let long : length sorted ≡ length keys = length_permutation keys sorted same in
    let few = fits.0 in
    (omega (arith, long, few), recursion_from_All IsWord sorted (All-permutation IsWord keys sorted same (All-from_recursion IsWord keys fits.1)))
sorted_fit false keys sorted same fits = nil_from_length sorted (length_permutation keys sorted same ∙ ap (λ (xs : List ℕ). length xs) fits)

-- ---- tables

pub no_tables : (tables : List NameTable) → tables ≡ [] → AllByRecursion FitsTable tables
no_tables tables none = subst (AllByRecursion FitsTable) (sym none) tt

pub one_more_fits : (tables now : List NameTable) (table : NameTable) → now ≡ tables ++ table ∷ [] → AllByRecursion FitsTable tables → FitsTable table → AllByRecursion FitsTable now
one_more_fits tables now table is fit fits = subst (AllByRecursion FitsTable) (sym is) (all_by_recursion_push FitsTable tables table fit fits)

-- beside the index of the text
pub are_savable : (settings : Settings) (chunk : ℕ) (text : List ℕ) (tables : NameTables) (index : Index) → HasTables settings chunk text tables → AllByRecursion FitsTable tables.tables.items
    → IsIndexOf settings chunk text index → HasItsTables index tables
are_savable settings chunk text tables index has fit is = record {
  chunks = has.are.count;
  counted =
      subst (λ (n : ℕ). IsCount n index.size has.are.count) (sym is.chunk_is)
      (subst (λ (n : ℕ). IsCount chunk n has.are.count) (sym is.size_is) has.are.counted);
  blocks = has.blocks;
  fits = fit;
}

pub tables_savable : (has_names : Bool) (settings : Settings) (chunk : ℕ) (text : List ℕ) (tables : Option NameTables) (index : Index) → HasNames has_names settings chunk text tables → FitTables tables
    → IsIndexOf settings chunk text index → HasTablesToo index tables
tables_savable true settings chunk text (Some t) index has fit is = are_savable settings chunk text t index has fit is
tables_savable true settings chunk text None index has fit is = tt
tables_savable false settings chunk text (Some t) index has fit is = absurd has
tables_savable false settings chunk text None index has fit is = tt

-- ---- what is held

pub held_fit : (held : Option NamedChunks) (c : NamedChunks) → held ≡ Some c → AreFit held → FitChunks c
held_fit held c is fit = subst AreFit is fit
