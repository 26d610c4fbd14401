use Rattle.std.proofs.Common.{◌≡◌, ℕ, ◌+◌, ◌^◌, ◌<◌, length, Option, sym, ap, subst, ◌∙◌, arith}
use Rattle.jx_run.specs.Elements.{after_separators}
use Rattle.jx_run.specs.ElementsRun.{ElementsRunValue, MarkedElementsValue, IsElementsRun}
use Rattle.jx_run.specs.inside.MarkedElements.{IsSummaryOf, AreMarked}
use Rattle.jx_run.proofs.ElementShifts.{marked_shifts, plain_shifts, run_ends, before_ends}
use Rattle.jx_run.proofs.runs.elements_run.ElementsRun.shifted.Goals as goal

pub shifted-before-requires : goal.shifted-before-requires
shifted-before-requires c =
    let is = ap (λ i. i.parted) c.self-inside.view_is ∙ c.self.view_is in
    let bytes = c.requires.of.0 in
    let h = c.requires.of.1 in
    let same : c.self-inside.inside.0.0.before.outcomes.end ≡ c.args.self.before.outcomes.end = ap (λ (r : ElementsRunValue). r.before.outcomes.end) is in
    let first = before_ends bytes c.args.self.before c.args.self.marked h in
    let last = run_ends bytes c.args.self.before c.args.self.marked h in
    let fits = c.requires.fits in
    record { fits = omega (arith, same, first, last, fits) }

pub returns-in-None-clause-of : goal.returns-in-None-clause-of
returns-in-None-clause-of c bytes h =
    let is = ap (λ i. i.parted) c.self-inside.view_is ∙ c.self.view_is in
    let k = subst (λ (m : Option MarkedElementsValue). IsSummaryOf bytes c.self-inside.inside.0.0.before m) c.in-None.is (subst (IsElementsRun bytes) (sym is) h) in
    (plain_shifts c.args.by c.self-inside.inside.0.0.before.outcomes.start c.shifted-before.result.outcomes.start bytes c.shifted-before.ensures.start k.0, c.shifted-before.ensures.of bytes k.1)

pub returns-in-Some-clause-of : goal.returns-in-Some-clause-of
returns-in-Some-clause-of c bytes h =
    let is = ap (λ i. i.parted) c.self-inside.view_is ∙ c.self.view_is in
    let k = subst (λ (m : Option MarkedElementsValue). IsSummaryOf bytes c.self-inside.inside.0.0.before m) c.in-Some.is (subst (IsElementsRun bytes) (sym is) h) in
    let start : c.self-inside.inside.0.0.before.outcomes.start ≡ c.args.self.before.outcomes.start = ap (λ (r : ElementsRunValue). r.before.outcomes.start) is in
    let last = run_ends bytes c.args.self.before c.args.self.marked h in
    let fits = c.requires.fits in
    let low : c.args.by + (c.self-inside.inside.0.0.before.outcomes.start + length bytes) < 2 ^ 64 = omega (arith, start, last, fits) in (
      c.shifted-before.ensures.of _ k.0,
      subst (λ (n : ℕ). AreMarked n (after_separators c.shifted-before.result.outcomes.start bytes) c.shifted_behind.result) (sym c.shifted-before.ensures.depth)
          (marked_shifts c.reader_and_grammar.ensures.verdict c.self-inside.inside.0.0.before.outcomes.depth c.args.by c.self-inside.inside.0.0.before.outcomes.start c.shifted-before.result.outcomes.start bytes _ c.shifted_behind.result low
          c.shifted-before.ensures.start k.1 c.shifted_behind.ensures.done c.shifted_behind.ensures.start c.shifted_behind.ensures.depth c.shifted_behind.ensures.after),
    )
