use Rattle.std.proofs.Common.{◌≡◌, ◌+◌, ◌<◌, ◌∙◌, ℕ, List, length, refl, take, sym, ap, subst}
use Rattle.std.proofs.lemmas.List.{length-take-le}
use Rattle.jx_ndjson_report.specs.declared.task.LinesTask.{LinesTask}
use Rattle.jx_ndjson_report.specs.inside.LinePasser.{HasPassed, LinePasserValue}
use Rattle.jx_ndjson_report.proofs.Passes.{passes_texts}
use Rattle.jx_ndjson_report.proofs.line_passer.LinePasser.take_texts.Goals as goal

pub returns-clause-taken : goal.returns-clause-taken
returns-clause-taken c = λ bytes given said h.
    let i = c.self.inside in
    let task : LinesTask = c.args.task.now in
    let slice : List ℕ = c.args.slice.now in
    let n : ℕ = c.in_ok-taken.taken in
    let old : LinePasserValue = record { teller = i.teller; kept = i.kept.items; ready = i.ready.items } in
    let new : LinePasserValue = record { teller = c.take_texts.new.self; kept = i.kept.items; ready = c.extend_from_slice.new.self.items } in
    let o : HasPassed task bytes given said old = subst (λ (p : LinePasserValue). HasPassed task bytes given said p) (sym c.self.view_is) h in
    let long : length (take n slice) ≡ n = length-take-le n slice c.in_ok-taken.ensures.within in
    passes_texts task bytes (take n slice) given said old new o
    (c.in_ok-taken.ensures.taken bytes said o.taken)
    c.in_ok-extend_from_slice.ensures.items
    refl
    (c.in_ok-taken.ensures.start ∙ ap (λ (k : ℕ). old.teller.lines.reader.start + k) (sym long))
    c.in_ok-taken.ensures.open
    (subst (λ (k : ℕ). 0 < k → old.teller.lines.reader.count ≡ 0) (sym long) c.in_ok-taken.ensures.between)
