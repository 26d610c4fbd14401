use Rattle.std.proofs.Common.{◌≡◌, Bool, List, ℕ, Option, length, subst}
use Rattle.std.specs.Prelude.{IfNone}
use Rattle.jx_file_index.specs.declared.saved_text.SavedText.{SavedText}
use Rattle.jx_file_build.specs.Held.{AreAll}
use Rattle.jx_file_build.proofs.Feedings.{none_judged}
use Rattle.jx_file_build.proofs.indexer.outcome_of.Goals as goal

pub returns-in-None-clause-refused : goal.returns-in-None-clause-refused
returns-in-None-clause-refused c = λ has_names bytes all.
    let settings = c.args.settings.now in
    let none : (b : Bool) (size : ℕ) (bs : List ℕ) → AreAll b settings size bs c.args.held → length bs ≡ 0 =
    subst (λ (o : Option SavedText). IfNone o ((b : Bool) (size : ℕ) (bs : List ℕ) → AreAll b settings size bs c.args.held → length bs ≡ 0)) c.in-None.is c.in_ok-made-in-Accepted.ensures.none in
    none_judged settings bytes (none has_names c.args.chunk bytes all) (c.reader_and_grammar.ensures.by_settings settings 0 bytes)
