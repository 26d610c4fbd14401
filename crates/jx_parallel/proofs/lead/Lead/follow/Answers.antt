use Rattle.std.proofs.Common.{◌≡◌, ◌++◌, length, sym, ap, ◌∙◌, subst}
use Rattle.jx_run.specs.OutcomeRun.{OutcomeRunValue, IsOutcomeRun}
use Rattle.jx_run.specs.Reader.{ReaderValue}
use Rattle.jx_parallel.specs.Offsets.{StandThere}
use Rattle.jx_parallel.proofs.There.{front_there}
use Rattle.jx_parallel.proofs.lead.Lead.follow.Goals as goal

pub invariant_of-result : goal.invariant_of-result
invariant_of-result g c =
    let l = c.self.invariant in
    let k = c.run.ensures.kept in
    let count : c.args.self.count ≡ length l.bytes = ap (λ (r : ReaderValue). r.count) (sym c.self.view_is) ∙ l.read.count in
    let at : c.args.kept.now.at ≡ length l.bytes = c.requires.behind ∙ count in
    record {
      by = c.in_ok-follow.ensures.settings ∙ l.by;
      start = c.in_ok-follow.ensures.start ∙ l.start;
      bytes = l.bytes ++ k.bytes;
      read = c.in_ok-follow.ensures.reads l.bytes k.bytes l.read (subst (λ (r : OutcomeRunValue). IsOutcomeRun k.bytes r) (sym c.run.ensures.run) k.of);
      there = front_there g.K.Known.text l.bytes k.bytes l.there (subst (λ n. StandThere g.K.Known.text n k.bytes) at k.there);
    }
