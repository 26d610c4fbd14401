use Rattle.std.proofs.Common.{◌≡◌, ◌++◌, ◌∷◌, [], map}
use Rattle.std.proofs.lemmas.Result.{err_from_is_err_and}
use Rattle.std.proofs.lemmas.List.{map_push}
use Rattle.jx_portion.specs.Fields.{structure_fields}
use Rattle.jx_portion.specs.Reading.{many_at, structure_at}
use Rattle.jx_portion.proofs.Loop.{goes_on, ends, is_done}
use Rattle.jx_portion.proofs.record.many_structures.Goals as goal

pub returns-in_err-structure : goal.returns-in_err-structure
returns-in_err-structure c =
    let p = err_from_is_err_and c.from_residual.result c.from_residual.ensures.1 in
    rw (p.1, p.2) (ends structure_at c.in_err-structure.field-0.0 (map structure_fields c.loop.structures.items) c.args.count c.loop.counter c.loop.rest.now (many_at structure_at c.args.count c.args.bytes.now) c.loop-test.true c.in_err-structure.ensures c.loop.invariant)

pub loop-preserved : goal.loop-preserved
loop-preserved c =
    let n = c.in_ok-structure.structure in
    let e : map structure_fields c.push.new.self.items ≡ map structure_fields c.loop.structures.items ++ structure_fields n ∷ [] = rw c.in_ok-push.ensures.items (map_push _ c.loop.structures.items n) in
    rw e (goes_on structure_at (map structure_fields c.loop.structures.items) c.args.count c.loop.counter c.loop.rest.now (structure_fields n) c.in_ok-structure.after.now (many_at structure_at c.args.count c.args.bytes.now) c.loop-test.true c.in_ok-structure.ensures c.loop.invariant)

pub returns : goal.returns
returns c = is_done structure_at (map structure_fields c.loop.structures.items) c.args.count c.loop.counter c.loop.rest.now (many_at structure_at c.args.count c.args.bytes.now) c.loop-test.false c.loop.invariant
