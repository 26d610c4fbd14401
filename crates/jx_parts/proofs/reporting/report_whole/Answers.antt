use Rattle.std.proofs.Common.{◌≡◌, ◌≢◌, ◌⊎◌, ◌+◌, ℕ, Option, refl, sym, ap, ◌∙◌, subst, inl, inr, arith}
use Rattle.std.proofs.lemmas.Result.{err_from_is_err_and}
use Rattle.std.specs.Prelude.{unwrap_or}
use Rattle.jx_parts.specs.Records.{HoldsRuns}
use Rattle.jx_parts.proofs.Taken.{runs_cover, same_place, whole_fault, whole_stream}
use Rattle.jx_parts.proofs.reporting.report_whole.Goals.{then-start-from-via-then-start-from, then-start-from-via-else-start-from+then-end-to}
use Rattle.jx_parts.proofs.reporting.report_whole.Goals as goal

pub returns-in_err-joined-clause-taken : goal.returns-in_err-joined-clause-taken
returns-in_err-joined-clause-taken g c = λ stream at count known holds.
    let fault = c.in_err-joined.field-0.0 in
    let refused = whole_fault c.args.depth c.args.from c.args.to stream fault (c.in_err-joined.ensures.refused stream known) in
    let is = runs_cover c.args.depth c.args.from c.args.to at count stream fault holds refused in
    let p = err_from_is_err_and c.from_residual.result c.from_residual.ensures.1 in
    rw (p.1, p.2) is

pub returns-then-start-from-clause-taken : goal.returns-then-start-from-clause-taken
returns-then-start-from-clause-taken g c = λ stream at count known holds.
    let read = c.in_ok-joined.ensures.ok in
    let joined = c.in_ok-joined.joined in
    let whole = whole_stream (g.S.Source.remaining c.args.reader.now) (g.S.Source.remaining c.read_joined.new.reader) stream read.stream known read.read in
    let same = same_place c.args.depth at joined.from count joined.run.end stream holds (subst (HoldsRuns c.args.depth joined.from joined.run.end) (sym whole) read.holds) in
    let begins : c.start-start.result ≡ unwrap_or at 0 = c.start-start.ensures ∙ ap (λ (f : Option ℕ). unwrap_or f 0) (sym same.0) in
    let ends : c.end-end.result ≡ c.start-start.result + count = omega (arith, c.end-end.ensures.value, c.start-start.ensures, same.1) in
    let apart : (c.start-start.result ≢ c.args.from) ⊎ (c.end-end.result ≢ c.args.to) =
    elim c.then-start-from.branch [
      | then-start-from-via-then-start-from w ↦ inl w.if-start-from.true
      | then-start-from-via-else-start-from+then-end-to w ↦ inr w.if-end-to.true
    ] in
    (refl, refl, begins, ends, apart)
