use Rattle.std.proofs.Common.{Option, ℕ, subst}
use Rattle.jx_portion.specs.Portion.{IsRecord}
use Rattle.jx_c.specs.Runs.{from_in}
use Rattle.jx_c.proofs.Records.{too_long, written}
use Rattle.jx_c.proofs.runs.jx_run_of.Goals as goal

pub returns-in-Ok-clause-written : goal.returns-in-Ok-clause-written
returns-in-Ok-clause-written c ok =
    let items = c.in-Ok.record.items in
    let is = subst (λ (f : Option ℕ). IsRecord c.args.part.now f c.args.depth items) c.from_in-from.ensures (subst (λ (d : ℕ). IsRecord c.args.part.now c.from_in-from.result d items) c.in-Some.ensures.value c.in-Ok.ensures) in
    written c.args.part.now (from_in c.args.from) c.args.depth items c.deref.result.now c.args.run.now c.put.new.run c.put.new.size c.deref.ensures.value is c.put.ensures.size (c.put.ensures.put ok)

pub returns-in-Ok-clause-room : goal.returns-in-Ok-clause-room
returns-in-Ok-clause-room c full =
    let items = c.in-Ok.record.items in
    let is = subst (λ (f : Option ℕ). IsRecord c.args.part.now f c.args.depth items) c.from_in-from.ensures (subst (λ (d : ℕ). IsRecord c.args.part.now c.from_in-from.result d items) c.in-Some.ensures.value c.in-Ok.ensures) in
    too_long c.args.part.now (from_in c.args.from) c.args.depth items c.deref.result.now c.args.run.now c.put.new.size c.deref.ensures.value is c.put.ensures.size (c.put.ensures.room full)
