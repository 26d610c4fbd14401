use Rattle.std.proofs.Common.{◌≡◌, ℕ, false, rules, sym, subst}
use Rattle.jx_parallel.specs.Offsets.{EndsBefore}
use Rattle.jx_parallel.proofs.GoesOn.{and_then, reads_all}
use Rattle.jx_parallel.proofs.by_parts.read_by_parts.Goals as goal

pub loop-preserved : goal.loop-preserved
loop-preserved g c = record {
  next = tt;
  finite = tt;
  room = search rules;
  read =
      and_then (g.F.SharedAt.content c.args.file.now) (g.L.PartReader.has_read c.args.rule.now) c.args.reader.now c.loop.reader c.read_round.new.reader c.loop.invariant.read
      c.in_ok-more.ensures.read;
}

pub returns-then-not-more-clause-read : goal.returns-then-not-more-clause-read
returns-then-not-more-clause-read g c =
    let known = g.F.SharedAt.content c.args.file.now in
    let has = g.L.PartReader.has_read c.args.rule.now in
    let none : c.in_ok-more.more ≡ false = search rules in
    reads_all known has c.args.reader.now c.read_round.new.reader c.end-end.result
    (and_then known has c.args.reader.now c.loop.reader c.read_round.new.reader c.loop.invariant.read c.in_ok-more.ensures.read)
    (subst (λ (n : ℕ). EndsBefore known n) (sym c.end-end.ensures.end) (c.in_ok-more.ensures.end none)) (c.end-end.ensures.length c.args.rule.now)
