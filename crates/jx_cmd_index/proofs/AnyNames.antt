-- In a text that is accepted by settings, the index is the same whatever names its objects have.
use Rattle.std.specs.Prelude.{Result, Ok, Err, Option, None, Some, IfErr, IfOk}
use Rattle.std.specs.declared.alloc.AllocError.{AllocError}
use Rattle.std.proofs.Common.{◌≡◌, ℕ, zero, suc, ◌*◌, List, [], ◌∷◌, ◌++◌, Bool, true, false, refl, sym, ap, subst, ◌∙◌}
use Rattle.jx_run.specs.declared.texts.settings.NameRule.{NameRule}
use Rattle.jx_run.specs.declared.texts.settings.NameRule.TheVariants.{Any, Unique}
use Rattle.jx_run.specs.declared.texts.settings.Settings.{Settings}
use Rattle.jx_run.specs.declared.texts.verdict.Refusal.{Refusal}
use Rattle.jx_run.specs.declared.texts.verdict.Verdict.TheVariants.{Accepted, Refused}
use Rattle.jx_run.specs.Settings as run
use Rattle.jx_run.specs.Settings.{IsDocumentBy, JudgedBy}
use Rattle.jx_run.specs.Tree.{Tree}
use Rattle.jx_index.specs.ByNames as by
use Rattle.jx_index.specs.ByNames.{IsVerdictBy, RefusesName}
use Rattle.jx_index.specs.Rows.{rows}
use Rattle.jx_file_index.specs.declared.entry.Entry.{Entry}
use Rattle.jx_file_index.specs.declared.index.Index.{Index}
use Rattle.jx_file_index.specs.Chunks.{IsCount, before, entries_of, entry_behind, part}
use Rattle.jx_file_index.specs.Index.{AreLevels, IsIndexOf}
use Rattle.jx_file_index.specs.Named.{AreNamed, more, none}
use Rattle.jx_file_index.specs.SavedTexts.{HasTablesToo}
use Rattle.jx_file_index.specs.declared.name_tables.NameTables.{NameTables}
use Rattle.jx_file_index.specs.declared.saved_text.SavedText.{SavedText}
use Rattle.jx_file_build.specs.TextTables.{HasNames}
use Rattle.jx_lex.specs.declared.alphabet.mark.Mark.{Mark}
use Rattle.jx_file_build.specs.declared.indexer.Indexer.{Indexer}
use Rattle.jx_file_build.specs.Indexer.{HasFed}
use Rattle.jx_cmd_index.specs.declared.saving.Saving.{Saving}
use Rattle.jx_cmd_index.specs.declared.saving.Saving.TheVariants as saving
use Rattle.jx_cmd_index.specs.inside.Saving.{ComesToSaved, IsSavingOf, any_names}

-- the entries of chunks are those of the grammar and the byte order mark
pub entries_any : (settings : Settings) (size : ℕ) (text : List ℕ) (n : ℕ) → entries_of (any_names settings) size text n ≡ entries_of settings size text n
unfolding entries_of
entries_any settings size text zero = refl
entries_any settings size text (suc n) =
    ap (λ (es : List Entry). es ++ entry_behind (before settings text (n * size)) (part size text n) ∷ []) (entries_any settings size text n)

with_names : (settings : Settings) (text : List ℕ) (tree : Tree) → IsDocumentBy (any_names settings) 0 text tree → IsDocumentBy settings 0 text tree
with_names settings text tree d = record { front = d.front; rest = d.rest; is_front = d.is_front; whole = d.whole; text = d.text }

without_names : (settings : Settings) (text : List ℕ) (tree : Tree) → IsDocumentBy settings 0 text tree → IsDocumentBy (any_names settings) 0 text tree
without_names settings text tree d = record { front = d.front; rest = d.rest; is_front = d.is_front; whole = d.whole; text = d.text }

judged_with : (settings : Settings) (text : List ℕ) → JudgedBy (any_names settings) 0 text Accepted → JudgedBy settings 0 text Accepted
judged_with settings text (run.a_text {tree = tree} d) = run.a_text (with_names settings text tree d)

pub judged_without : (settings : Settings) (text : List ℕ) → IsVerdictBy settings text Accepted → JudgedBy (any_names settings) 0 text Accepted
judged_without settings text (by.a_text {tree = tree} d unrefused) = run.a_text (without_names settings text tree d)

-- the index of a text whose names are unique
pub unique_index : (settings : Settings) (chunk : ℕ) (text : List ℕ) (index : Index) → settings.names ≡ Unique → IsIndexOf (any_names settings) chunk text index
    → IsIndexOf settings chunk text (record index { settings = record { depth = index.settings.depth; mark = index.settings.mark; names = Unique } })
unique_index settings chunk text index unique is = record {
  accepted = judged_with settings text is.accepted;
  settings_are =
      ap (λ (s : Settings). record { depth = s.depth; mark = s.mark; names = Unique }) is.settings_are
      ∙ ap (λ (n : NameRule). record { depth = settings.depth; mark = settings.mark; names = n }) (sym unique);
  chunk_is = is.chunk_is;
  size_is = is.size_is;
  count = is.count;
  counted = is.counted;
  levels = subst (λ (es : List Entry). AreLevels es index.entries.items index.top) (entries_any settings chunk text is.count) is.levels;
}

-- where names may be any, the verdict is the grammar's
pub any_verdict : (settings : Settings) (text : List ℕ) → settings.names ≡ Any → JudgedBy settings 0 text Accepted → IsVerdictBy settings text Accepted
any_verdict settings text any (run.a_text {tree = tree} d) = by.a_text d (subst (λ (n : NameRule). RefusesName n text (rows tree) None) (sym any) refl)

-- so are the names of chunks
named_any : (settings : Settings) (size : ℕ) (text : List ℕ) {n : ℕ} {begun : Option Mark} {names : List (List (List ℕ))} → AreNamed (any_names settings) size text n begun names
    → AreNamed settings size text n begun names
named_any settings size text none = none
named_any settings size text (more h of) = more (named_any settings size text h) of

pub tables_any : (has_names : Bool) (settings : Settings) (chunk : ℕ) (text : List ℕ) (tables : Option NameTables) → HasNames has_names (any_names settings) chunk text tables
    → HasNames has_names settings chunk text tables
tables_any true settings chunk text (Some t) has = record {
  are = record {
    count = has.are.count;
    counted = has.are.counted;
    begun = has.are.begun;
    names = has.are.names;
    named = named_any settings chunk text has.are.named;
    each = has.are.each;
  };
  blocks = has.blocks;
}
tables_any true settings chunk text None has = has
tables_any false settings chunk text (Some t) has = has
tables_any false settings chunk text None has = has

-- what is saved beside an index of a text is saved beside any other
pub beside_any : (one other : Settings) (chunk : ℕ) (text : List ℕ) (old new : Index) (tables : Option NameTables) → IsIndexOf one chunk text old → IsIndexOf other chunk text new
    → HasTablesToo old tables → HasTablesToo new tables
beside_any one other chunk text old new None was is has = tt
beside_any one other chunk text old new (Some t) was is has = record {
  chunks = has.chunks;
  counted =
      subst (λ (k : ℕ). IsCount k new.size has.chunks) (was.chunk_is ∙ sym is.chunk_is)
      (subst (λ (k : ℕ). IsCount old.chunk k has.chunks) (was.size_is ∙ sym is.size_is) has.counted);
  blocks = has.blocks;
  fits = has.fits;
}

-- what an indexer comes to, where names may be any
pub any_comes : (s : Saving) (indexer : Indexer) (q : Result (Result SavedText Refusal) AllocError) → s ≡ saving.Any indexer
    → IfOk q (λ read. IfOk read (λ saved. (has_names : Bool) (settings : Settings) (chunk : ℕ) (bytes : List ℕ) → HasFed has_names settings chunk bytes indexer → IsIndexOf settings chunk bytes saved.index))
    → IfOk q (λ read. IfOk read (λ saved. (has_names : Bool) (settings : Settings) (chunk : ℕ) (bytes : List ℕ) → HasFed has_names settings chunk bytes indexer → HasNames has_names settings chunk bytes saved.names))
    → IfOk q (λ read. IfOk read (λ saved. (has_names : Bool) (settings : Settings) (chunk : ℕ) (bytes : List ℕ) → HasFed has_names settings chunk bytes indexer → HasTablesToo saved.index saved.names))
    → IfOk q (λ read. IfErr read (λ refusal. (has_names : Bool) (settings : Settings) (chunk : ℕ) (bytes : List ℕ) → HasFed has_names settings chunk bytes indexer → JudgedBy settings 0 bytes (Refused refusal)))
    → IfOk q (λ read. (has_names : Bool) (settings : Settings) (chunk : ℕ) (bytes : List ℕ) → IsSavingOf has_names settings chunk bytes s → ComesToSaved has_names settings chunk bytes read)
any_comes s indexer (Err e) is made named fit refused = made
any_comes s indexer (Ok (Ok saved)) is made named fit refused = λ has_names settings chunk bytes h.
    let fed : HasFed has_names settings chunk bytes indexer = subst (λ (x : Saving). IsSavingOf has_names settings chunk bytes x) is h in
    let index_is : IsIndexOf settings chunk bytes saved.index = made has_names settings chunk bytes fed in
    record {
      accepted = any_verdict settings bytes fed.names index_is.accepted;
      index = index_is;
      names = named has_names settings chunk bytes fed;
      savable = fit has_names settings chunk bytes fed;
    }
any_comes s indexer (Ok (Err refusal)) is made named fit refused = λ has_names settings chunk bytes h.
    by.no_text (refused has_names settings chunk bytes (subst (λ (x : Saving). IsSavingOf has_names settings chunk bytes x) is h))
