use Rattle.std.proofs.Common.{subst, sym}
use Rattle.std.proofs.lemmas.Result.{IfOk-weaker}
use Rattle.jx_line_values.specs.inside.ValuesTeller.{HasTold, ValuesTellerValue}
use Rattle.jx_line_values.proofs.Tells.{ends}
use Rattle.jx_line_values.proofs.values_teller.ValuesTellerReporter.finish.Goals as goal

pub returns : goal.returns
returns g c =
    let i = c.self.inside in
    let old : ValuesTellerValue = record { task = i.task.now; cutter = i.cutter; end = i.end } in
    record {
      ended = IfOk-weaker c.finish.result _ _
          (λ exit outputs was now bytes given h.
          ends c.args._task.now (g.E.Sink.has_failed now) (g.E.Sink.contents was) (g.E.Sink.contents now) bytes given old _ exit
          (subst (λ (v : ValuesTellerValue). HasTold c.args._task.now (g.E.Sink.has_failed now) (g.E.Sink.contents was) (g.E.Sink.contents now) bytes given v) (sym c.self.view_is) h) outputs)
          c.finish.ensures;
    }
