use Rattle.std.proofs.Common.{◌≡◌, ◌++◌, None, Some, Option, ap, length, subst, suc, sym, ◌∙◌}
use Rattle.jx_run.specs.OutcomeRun.{IsOutcomeRun, OutcomeRunValue}
use Rattle.jx_run.proofs.InTurn.{faults_stay}
use Rattle.jx_file_build.specs.declared.named_chunks.NamedChunks.{NamedChunks}
use Rattle.jx_file_build.specs.Held.{AreWhole, HeldValue, held_of}
use Rattle.jx_file_build.specs.inside.NamedChunks.{AreNamesAt}
use Rattle.jx_file_build.specs.inside.Tallied.{ReadsOn}
use Rattle.jx_file_build.proofs.NamesRead.{none_on}
use Rattle.jx_file_build.proofs.Readings.{goes_on, one_entered}
use Rattle.jx_file_build.proofs.held.Held.follow.Goals as goal

pub follow-requires-clause-of : goal.follow-requires-clause-of
follow-requires-clause-of c =
    let kept = c.run.ensures.kept in
    (kept.bytes, subst (λ (r : OutcomeRunValue). IsOutcomeRun kept.bytes r) (sym c.run.ensures.run) kept.of.run)

pub follow-requires-clause-start : goal.follow-requires-clause-start
follow-requires-clause-start c = ap (λ (r : OutcomeRunValue). r.start) c.run.ensures.run ∙ c.run.ensures.kept.of.start

pub invariant_of-result : goal.invariant_of-result
invariant_of-result c =
    let a = c.self.inside in
    let none : a.names ≡ None = ap (λ (h : HeldValue). h.names) c.self.view_is ∙ c.requires.unnamed in
    record { turn = λ h is. let no : None ≡ Some h = sym none ∙ is in absurd cc; fit = c.self.invariant.fit }

pub returns-clause-entered : goal.returns-clause-entered
returns-clause-entered c = λ has_names settings size bytes more was fits alone entry_is.
    let a = c.self.inside in
    let new = c.follow.new.self in
    let n = length a.entries.items in
    let k : AreWhole has_names settings size bytes (held_of a) = subst (AreWhole has_names settings size bytes) (sym c.self.view_is) was in
    let none : a.names ≡ None = ap (λ (h : HeldValue). h.names) c.self.view_is ∙ c.requires.unnamed in
    let e = c.in_ok-follow.ensures in
    let on : ReadsOn a.reader new more = record {
      settings = e.settings;
      start = e.start;
      reads = λ xs h. e.reads xs more h (subst (λ (r : OutcomeRunValue). IsOutcomeRun more r) (sym c.run.ensures.run) alone.run);
    } in
    one_entered has_names settings size bytes more (held_of a) _ c.args.entry k fits on c.in_ok-push.ensures.items
    (λ going came is. entry_is came (ap (λ (h : HeldValue). h.reader.outcome) (sym c.self.view_is) ∙ is))
    (subst (λ (o : Option NamedChunks). AreNamesAt has_names settings size (bytes ++ more) (suc n) new.outcome o) (sym none)
    (none_on settings size bytes more n k.whole fits a.reader new k.entered.read (goes_on settings bytes more a.reader new k.entered.read on) (λ q. faults_stay settings.mark settings.depth bytes more q) has_names
    (subst (λ (o : Option NamedChunks). AreNamesAt has_names settings size bytes n a.reader.outcome o) none k.entered.names)))
