use Rattle.std.proofs.Common.{◌++◌, List, ℕ, length, subst, sym, arith}
use Rattle.std.proofs.lemmas.List.{take_all}
use Rattle.jx_ndjson.specs.Lines.{is_line_feed}
use Rattle.jx_ndjson.proofs.Cuts.{none-found, none-found-before}
use Rattle.jx_line_values.specs.inside.Cutting.{HasTaken}
use Rattle.jx_line_values.proofs.Cuts.{with_feed}
use Rattle.jx_line_values.proofs.cutting.LineCutter.take_step.Goals as goal

pub keep-requires : goal.keep-requires
keep-requires c = none-found is_line_feed c.args.slice.now (λ k low m. c.in-None.ensures k (omega arith) low m)

pub returns-in_ok-keep-in-None-clause-taken : goal.returns-in_ok-keep-in-None-clause-taken
returns-in_ok-keep-in-None-clause-taken c = λ bytes given said h.
    let slice : List ℕ = c.args.slice.now in
    subst (λ (xs : List ℕ). HasTaken c.args.task.now (bytes ++ xs) given said c.keep.new.self) (sym (take_all (length slice) slice (omega arith)))
    (c.in_ok-keep-in-None.ensures c.args.task.now bytes given said h)

pub take_fed-requires-clause-line : goal.take_fed-requires-clause-line
take_fed-requires-clause-line c =
    let high = c.in-Some.ensures.0.high in
    none-found-before is_line_feed c.args.slice.now c.in-Some.at (omega (arith, high)) (λ j low m. c.in-Some.ensures.0.before j (omega arith) low m)

pub returns-in_ok-take_fed-in-Some-clause-taken : goal.returns-in_ok-take_fed-in-Some-clause-taken
returns-in_ok-take_fed-in-Some-clause-taken c = λ bytes given said h.
    subst (λ (xs : List ℕ). HasTaken c.args.task.now xs given said c.take_fed.new.self) (with_feed bytes c.args.slice.now c.in-Some.at c.in-Some.ensures.0.high c.in-Some.ensures.1)
    (c.in_ok-take_fed-in-Some.ensures bytes given said h)
