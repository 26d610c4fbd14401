use Rattle.std.proofs.Common.{◌+◌, ◌^◌, ◌<◌, refl, rules}
use Rattle.std.specs.Prelude.{unwrap_or}
use Rattle.std.proofs.lemmas.Result.{err_from_is_err_and}
use Rattle.jx_portion.proofs.Said.{kept_again, only_weaker, read_is, sound_again}
use Rattle.jx_portion.proofs.decoding.portion_of.Goals as goal

pub returns-in_err-structures-clause-fault : goal.returns-in_err-structures-clause-fault
returns-in_err-structures-clause-fault c =
    let p = err_from_is_err_and c.from_residual.result c.from_residual.ensures.1 in
    rw (p.1, p.2) (only_weaker c.in_err-structures.field-0.0 _ _ (sound_again c.args.depth c.args.parts) c.in_err-structures.ensures.fault)

pub returns-in-Some-clause-made : goal.returns-in-Some-clause-made
returns-in-Some-clause-made c =
    let place : unwrap_or c.args.parts.from 0 + c.args.parts.end < 2 ^ 64 = search rules in
    read_is c.args.depth c.args.parts.from c.args.parts.end c.args.parts.transitions.items c.args.parts.structures.items c.in_ok-structures.structures.items c.in-Some.run' c.in_ok-structures.ensures.made.0 c.in_ok-structures.ensures.made.1
    c.in-Some.ensures.0 c.in-Some.ensures.1 place

pub returns-in-None-clause-fault : goal.returns-in-None-clause-fault
returns-in-None-clause-fault c = (refl, λ r. c.in-None.ensures (kept_again c.args.depth c.args.parts c.in_ok-structures.structures.items c.in_ok-structures.ensures.made.0 r))
