use Rattle.std.proofs.Common.{◌≡◌, ◌++◌, length, sym, ap, ◌∙◌, subst}
use Rattle.jx_run.specs.Reader.{ReaderValue}
use Rattle.jx_parallel.specs.Offsets.{StandThere}
use Rattle.jx_parallel.proofs.There.{front_there}
use Rattle.jx_parallel.proofs.lead.Lead.feed.Goals as goal

pub invariant_of-result : goal.invariant_of-result
invariant_of-result g c =
    let l = c.self.invariant in
    let more = c.args.bytes.now in
    let count : c.args.self.count ≡ length l.bytes = ap (λ (r : ReaderValue). r.count) (sym c.self.view_is) ∙ l.read.count in
    record {
      by = c.in_ok-feed.ensures.settings ∙ l.by;
      start = c.in_ok-feed.ensures.start ∙ l.start;
      bytes = l.bytes ++ more;
      read = c.in_ok-feed.ensures.reads l.bytes l.read;
      there = front_there g.K.Known.text l.bytes more l.there (subst (λ n. StandThere g.K.Known.text n more) count c.requires);
    }
