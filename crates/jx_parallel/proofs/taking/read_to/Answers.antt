use Rattle.std.proofs.Common.{rules}
use Rattle.jx_parallel.proofs.GoesOn.{and_then}
use Rattle.jx_parallel.proofs.taking.read_to.Goals as goal

pub loop-preserved : goal.loop-preserved
loop-preserved g c = record {
  next = tt;
  finite = tt;
  length = search rules;
  read =
      and_then (g.F.SharedAt.content c.args.file.now) (g.L.PartReader.has_read c.args.rule.now) c.args.reader.now c.loop.reader c.read_there.new.reader c.loop.invariant.read
      c.in_ok-read_there.ensures.read;
}
