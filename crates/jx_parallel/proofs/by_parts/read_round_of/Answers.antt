use Rattle.std.proofs.lemmas.Result.{err_from_is_err_and}
use Rattle.jx_parallel.proofs.GoesOn.{and_then, stops_behind}
use Rattle.jx_parallel.proofs.by_parts.read_round_of.Goals as goal

pub returns-in_err-read_to-2-clause-stopped : goal.returns-in_err-read_to-2-clause-stopped
returns-in_err-read_to-2-clause-stopped g c =
    let known = g.F.SharedAt.content c.args.file.now in
    let has = g.L.PartReader.has_read c.args.rule.now in
    let p = err_from_is_err_and c.from_residual-in_err-read_to-2.result c.from_residual-in_err-read_to-2.ensures.1 in
    stops_behind known has c.args.reader.now c.take_parts.new.reader c.read_to-2.new.reader c.read_to-2.result c.from_residual-in_err-read_to-2.result
    c.in_err-read_to-2.field-0.0 p.0
    (and_then known has c.args.reader.now c.read_to.new.reader c.take_parts.new.reader c.in_ok-read_to.ensures.read c.in_ok-take_parts.ensures.read)
    c.read_to-2.ensures.stopped c.in_err-read_to-2.was p.1 p.2

pub returns-clause-read : goal.returns-clause-read
returns-clause-read g c =
    let known = g.F.SharedAt.content c.args.file.now in
    let has = g.L.PartReader.has_read c.args.rule.now in
    and_then known has c.args.reader.now c.take_parts.new.reader c.read_to-2.new.reader
    (and_then known has c.args.reader.now c.read_to.new.reader c.take_parts.new.reader c.in_ok-read_to.ensures.read c.in_ok-take_parts.ensures.read) c.in_ok-read_to-2.ensures.read
