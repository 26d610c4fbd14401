use Rattle.std.proofs.Common.{◌≡◌, ℕ, List, ◌-◌, ◌≤◌, ◌++◌, length, take, subst, arith}
use Rattle.std.specs.Prelude.{slice_range}
use Rattle.std.proofs.lemmas.List.Edits.{length-between}
use Rattle.jx_ndjson.proofs.Tallies.{goes_some}
use Rattle.jx_ndjson_report.specs.inside.LineTeller.{HasTaken}
use Rattle.jx_ndjson_report.proofs.Takes.{one_step}
use Rattle.jx_ndjson_report.proofs.line_teller.LineTeller.take_step.Goals as goal

pub returns-clause-some : goal.returns-clause-some
returns-clause-some c = λ some.
    let slice : List ℕ = c.args.slice.now in
    let n : ℕ = c.in_ok-passed.passed in
    let within : n ≤ length slice = c.in_ok-passed.ensures.within in
    let long : length (slice_range slice n (length slice)) ≡ length slice - n = length-between slice n (length slice) (omega arith) in
    goes_some n c.in_ok-taken.taken (length slice) (λ left. c.in_ok-taken.ensures.some (omega (arith, long, left))) some

pub returns-clause-taken : goal.returns-clause-taken
returns-clause-taken c = λ bytes given h.
    let slice : List ℕ = c.args.slice.now in
    let n : ℕ = c.in_ok-passed.passed in
    let m : ℕ = c.in_ok-taken.taken in
    let within : n ≤ length slice = c.in_ok-passed.ensures.within in
    let long : length (slice_range slice n (length slice)) ≡ length slice - n = length-between slice n (length slice) (omega arith) in
    let step = c.in_ok-taken.ensures.within in
    let low : m ≤ length slice - n = omega (arith, long, step) in
    subst (λ (xs : List ℕ). HasTaken c.args.task.now xs given c.take_line.new.self) (one_step bytes slice n m within low)
    (c.in_ok-taken.ensures.taken (bytes ++ take n slice) given (c.in_ok-passed.ensures.taken bytes given h).taken.0)
