use Rattle.std.proofs.Common.{All, sym, subst}
use Rattle.jx_run.specs.OutcomeRun.{IsFormWithin}
use Rattle.jx_run.proofs.Reducing.{all_push}
use Rattle.jx_run.proofs.runs.rest.fill.Goals as goal

pub returns-in_ok-push-clause-within : goal.returns-in_ok-push-clause-within
returns-in_ok-push-clause-within c h =
    let P = IsFormWithin c.args.depth c.args.from c.args.to in
    subst (All P) (sym c.in_ok-push.ensures.items)
    (all_push P c.args.structures.now.items c.new.result h (record { depth = c.new.ensures.depth; offsets = c.new.ensures.offsets c.args.from c.args.to }))
