use Rattle.std.proofs.Common.{◌≡◌, List, Option, ap, arith, length, refl, subst, sym, ◌∙◌}
use Rattle.std.specs.Prelude.{IfNone, IfSome}
use Rattle.jx_run.specs.Laws.{verdict_on}
use Rattle.jx_run.specs.Reader.{read_by}
use Rattle.jx_run.specs.declared.texts.verdict.Verdict.TheVariants.{Accepted}
use Rattle.jx_file_index.specs.declared.entry.Entry.{Entry}
use Rattle.jx_file_index.specs.declared.levels.Levels.{Levels}
use Rattle.jx_file_index.specs.Index.{AreLevels}
use Rattle.jx_file_build.specs.declared.named_chunks.NamedChunks.{NamedChunks}
use Rattle.jx_file_build.specs.inside.NamedChunks.{AreNames}
use Rattle.jx_file_build.proofs.Feedings.{accepted_entries, accepted_names, none_counted}
use Rattle.jx_file_build.proofs.Fitting.{tables_savable}
use Rattle.jx_file_build.proofs.indexer.saved_of.Goals as goal

pub returns-in-None-clause-none : goal.returns-in-None-clause-none
returns-in-None-clause-none c = λ has_names size bytes all.
    let kept = c.into_kept-kept.result.entries.items in
    let none : length kept ≡ 0 = subst (λ (o : Option Levels). IfNone o (length kept ≡ 0)) c.in-None.is c.in_ok-levels.ensures.none in
    none_counted has_names c.args.settings.now size bytes c.args.held (sym (ap (λ (es : List Entry). length es) c.into_kept-kept.ensures.entries) ∙ none) all

pub returns-in_ok-names-in-Some-clause-index : goal.returns-in_ok-names-in-Some-clause-index
returns-in_ok-names-in-Some-clause-index c = λ has_names bytes all accepted.
    let settings = c.args.settings.now in
    let levels = c.in-Some.levels in
    let kept = c.into_kept-kept.result.entries.items in
    let came : verdict_on (read_by settings.mark settings.depth 0 bytes) ≡ Accepted =
    c.unique_verdict_by_settings.ensures.one_verdict settings 0 bytes (verdict_on (read_by settings.mark settings.depth 0 bytes)) Accepted (c.reader_and_grammar.ensures.by_settings settings 0 bytes) accepted in
    let made : AreLevels kept levels.entries.items levels.top = subst (λ (o : Option Levels). IfSome o (λ l. AreLevels kept l.entries.items l.top)) c.in-Some.is c.in_ok-levels.ensures.levels in
    record {
      accepted = accepted;
      settings_are = refl;
      chunk_is = refl;
      size_is = let n = c.count-size.ensures in let start = all.entered.read.start in let long = all.entered.read.read.count in omega (arith, n, start, long);
      count = length c.args.held.entries;
      counted = all.counted;
      levels = subst (λ (es : List Entry). AreLevels es levels.entries.items levels.top) (c.into_kept-kept.ensures.entries ∙ accepted_entries has_names settings c.args.chunk bytes c.args.held came all) made;
    }

pub returns-in_ok-names-in-Some-clause-names : goal.returns-in_ok-names-in-Some-clause-names
returns-in_ok-names-in-Some-clause-names c = λ has_names bytes all accepted.
    let settings = c.args.settings.now in
    let count = length c.args.held.entries in
    let came : verdict_on (read_by settings.mark settings.depth 0 bytes) ≡ Accepted =
    c.unique_verdict_by_settings.ensures.one_verdict settings 0 bytes (verdict_on (read_by settings.mark settings.depth 0 bytes)) Accepted (c.reader_and_grammar.ensures.by_settings settings 0 bytes) accepted in
    c.in_ok-names-in-Some.ensures.tables has_names settings c.args.chunk bytes count
    (subst (λ (o : Option NamedChunks). AreNames has_names settings c.args.chunk bytes count o) (sym c.into_kept-kept.ensures.names) (accepted_names has_names settings c.args.chunk bytes c.args.held came all)) all.counted

pub returns-in_ok-names-in-Some-clause-savable : goal.returns-in_ok-names-in-Some-clause-savable
returns-in_ok-names-in-Some-clause-savable c = λ has_names bytes all accepted.
    tables_savable has_names c.args.settings.now c.args.chunk bytes c.in_ok-names-in-Some.names _ (returns-in_ok-names-in-Some-clause-names c has_names bytes all accepted)
    (c.in_ok-names-in-Some.ensures.fits c.into_kept-kept.ensures.fit) (returns-in_ok-names-in-Some-clause-index c has_names bytes all accepted)
