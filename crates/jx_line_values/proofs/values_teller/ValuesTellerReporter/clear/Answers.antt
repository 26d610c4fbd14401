use Rattle.std.proofs.Common.{◌++◌, List, ℕ, refl, subst, sym}
use Rattle.std.specs.Io.KnownBytes.{Appends}
use Rattle.jx_line_values.specs.Reports.{ToldOutput}
use Rattle.jx_line_values.specs.inside.ValuesTeller.{HasEnded, HasTold, ValuesTellerValue}
use Rattle.jx_line_values.proofs.Tells.{told_all, told_on}
use Rattle.jx_line_values.proofs.values_teller.ValuesTellerReporter.clear.Goals as goal

pub returns-clause-taken : goal.returns-clause-taken
returns-clause-taken g c = λ task was bytes given h.
    let i = c.self.inside in
    let old : ValuesTellerValue = record { task = i.task.now; cutter = i.cutter; end = i.end } in
    let new : ValuesTellerValue = record { task = i.task.now; cutter = c.clear.new.self; end = i.end } in
    let lost = g.E.Sink.has_failed c.args.beside.now in
    let is = g.E.Sink.has_failed c.tell.new.errors in
    let e = g.E.Sink.contents was in
    let f = g.E.Sink.contents c.args.beside.now in
    let k = g.E.Sink.contents c.tell.new.errors in
    subst (λ (v : ValuesTellerValue). HasTold task is e k bytes (given ++ v.cutter.ready) new) c.self.view_is
    (told_on task lost e f bytes given old is k c.tell.ensures.lost (λ n. subst (λ (l : List ℕ). Appends f k l) c.told.ensures (c.tell.ensures.told n)) new
    (subst (λ (v : ValuesTellerValue). HasTold task lost e f bytes given v) (sym c.self.view_is) h) refl refl c.clear.ensures.taken)

pub returns-clause-output : goal.returns-clause-output
returns-clause-output g c = λ task was bytes given exit h.
    let i = c.self.inside in
    let old : ValuesTellerValue = record { task = i.task.now; cutter = i.cutter; end = i.end } in
    let lost = g.E.Sink.has_failed c.args.beside.now in
    let is = g.E.Sink.has_failed c.tell.new.errors in
    let e = g.E.Sink.contents was in
    let f = g.E.Sink.contents c.args.beside.now in
    let k = g.E.Sink.contents c.tell.new.errors in
    subst (λ (v : ValuesTellerValue). ToldOutput task is e k bytes (given ++ v.cutter.ready) exit) c.self.view_is
    (told_all task lost e f bytes given old is k c.tell.ensures.lost (λ n. subst (λ (l : List ℕ). Appends f k l) c.told.ensures (c.tell.ensures.told n)) exit
    (subst (λ (v : ValuesTellerValue). HasEnded task lost e f bytes given exit v) (sym c.self.view_is) h))
