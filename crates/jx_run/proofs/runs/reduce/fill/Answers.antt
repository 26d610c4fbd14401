use Rattle.std.proofs.Common.{subst}
use Rattle.jx_run.specs.inside.Reduced.{IsReduced}
use Rattle.jx_run.proofs.runs.reduce.fill.Goals as goal

pub returns : goal.returns
returns c =
    let r = c.in_ok-reduced.ensures in
    record {
      slot = subst (λ ms. IsReduced c.args.depth ms c.in_ok-reduced.reduced) c.marks.ensures (record { depth = r.depth; reads = r.reads; offsets = r.offsets });
    }
