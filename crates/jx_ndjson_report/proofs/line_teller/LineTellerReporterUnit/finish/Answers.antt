use Rattle.std.proofs.Common.{◌+◌, ◌∙◌, Bool, cond, sym, subst, ap}
use Rattle.jx_ndjson_report.specs.declared.task.LinesTask.{LinesTask}
use Rattle.jx_ndjson_report.specs.inside.LineTeller.{HasTaken, LineTellerValue}
use Rattle.jx_ndjson_report.proofs.Takes.{ends_so, ends_with, ok_with}
use Rattle.jx_ndjson_report.proofs.line_teller.LineTellerReporterUnit.finish.Goals as goal

pub returns-in-None : goal.returns-in-None
returns-in-None c =
    let i = c.self.inside in
    let task : LinesTask = c.args.task.now in
    let r : LineTellerValue = record { lines = i.lines; good = i.good; bad = i.bad; ready = i.ready.items } in
    record {
      ended = ok_with c.add_end.result
          (λ exit e total was now bytes given h.
          ends_so task bytes given c.add_end.new.ready.items r exit (subst (λ (v : LineTellerValue). HasTaken task bytes given v) (sym c.self.view_is) h) c.in-None.ensures.told total e)
          c.add_end.ensures.exit c.add_end.ensures.total;
    }

pub returns-in_ok-add_bad-in-Some : goal.returns-in_ok-add_bad-in-Some
returns-in_ok-add_bad-in-Some c =
    let i = c.self.inside in
    let task : LinesTask = c.args.task.now in
    let r : LineTellerValue = record { lines = i.lines; good = i.good; bad = i.bad; ready = i.ready.items } in
    record {
      ended = ok_with c.add_end-in-Some.result
          (λ exit e total was now bytes given h.
          ends_with task bytes given c.add_bad.new.ready.items c.add_end-in-Some.new.ready.items c.in-Some.judged r c.counted-good.result c.counted-bad.result exit
          (subst (λ (v : LineTellerValue). HasTaken task bytes given v) (sym c.self.view_is) h) c.in-Some.ensures.told
          (c.counted-good.ensures ∙ ap (λ (b : Bool). i.good + cond b 1 0) c.is_good.ensures)
          (c.counted-bad.ensures ∙ ap (λ (b : Bool). i.bad + cond b 1 0) c.is_bad.ensures)
          c.in_ok-add_bad-in-Some.ensures total e)
          c.add_end-in-Some.ensures.exit c.add_end-in-Some.ensures.total;
    }
