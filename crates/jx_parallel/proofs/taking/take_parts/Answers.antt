use Rattle.std.proofs.Common.{rules}
use Rattle.std.proofs.lemmas.Result.{err_from_is_err_and}
use Rattle.jx_parallel.proofs.GoesOn.{and_then, stops_behind}
use Rattle.jx_parallel.proofs.taking.take_parts.Goals as goal

pub loop-preserved : goal.loop-preserved
loop-preserved g c = record {
  next = tt;
  finite = tt;
  length = search rules;
  read =
      and_then (g.F.SharedAt.content c.args.file.now) (g.L.PartReader.has_read c.args.rule.now) c.args.reader.now c.loop.reader c.take_there.new.reader c.loop.invariant.read
      c.in_ok-take_there.ensures.read;
}

pub returns-in_err-take_there-clause-stopped : goal.returns-in_err-take_there-clause-stopped
returns-in_err-take_there-clause-stopped g c =
    let p = err_from_is_err_and c.from_residual.result c.from_residual.ensures.1 in
    stops_behind (g.F.SharedAt.content c.args.file.now) (g.L.PartReader.has_read c.args.rule.now) c.args.reader.now c.loop.reader c.take_there.new.reader c.take_there.result
    c.from_residual.result c.in_err-take_there.field-0.0 p.0 c.loop.invariant.read c.take_there.ensures.stopped c.in_err-take_there.was p.1 p.2
