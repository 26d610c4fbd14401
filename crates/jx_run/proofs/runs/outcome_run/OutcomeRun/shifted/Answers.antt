use Rattle.std.proofs.Common.{◌≡◌, ◌+◌, ◌-◌, ◌^◌, List, get_or, sym, ap, subst, arith}
use Rattle.jx_run.specs.declared.runs.transition.Transition.{Transition}
use Rattle.jx_run.specs.OutcomeRun.{OutcomeRunValue, IsOutcomeRun, IsWellFormed}
use Rattle.jx_run.proofs.Shifts.{shifted_reads, shifted_whole}
use Rattle.jx_run.proofs.runs.outcome_run.OutcomeRun.shifted.Goals as goal

pub structures_shifted-requires : goal.structures_shifted-requires
structures_shifted-requires c =
    let i = c.self.invariant in
    let end : c.self.inside.span.end ≡ c.args.self.end = ap (λ (v : OutcomeRunValue). v.end) c.self.view_is in
    let high = c.requires.fits in
    record { fits = λ k d low. c.spans_of_structures.ensures.wider c.self.inside.span.start c.self.inside.span.end 0 (2 ^ 64 - c.args.by) (get_or c.self.inside.structures.items k d) (omega arith) (omega (arith, end, high)) (i.within k d low).offsets }

pub invariant_of-result : goal.invariant_of-result
invariant_of-result c =
    let run : OutcomeRunValue = record { depth = c.self.inside.depth; start = c.self.inside.span.start; end = c.self.inside.span.end; transitions = c.self.inside.transitions.items; structures = c.self.inside.structures.items } in
    let news = c.structures_shifted.result.items in
    subst (λ (ws : List Transition). IsWellFormed (record { depth = run.depth; start = c.args.by + run.start; end = c.args.by + run.end; transitions = ws; structures = news })) (sym c.transitions_shifted.ensures)
    (shifted_whole c.args.by run news c.self.invariant c.structures_shifted.ensures.long c.structures_shifted.ensures.moved)

pub returns-clause-of : goal.returns-clause-of
returns-clause-of c bytes h =
    let run : OutcomeRunValue = record { depth = c.self.inside.depth; start = c.self.inside.span.start; end = c.self.inside.span.end; transitions = c.self.inside.transitions.items; structures = c.self.inside.structures.items } in
    let news = c.structures_shifted.result.items in
    let end : c.self.inside.span.end ≡ c.args.self.end = ap (λ (v : OutcomeRunValue). v.end) c.self.view_is in
    let high = c.requires.fits in
    subst (λ (ws : List Transition). IsOutcomeRun bytes (record { depth = run.depth; start = c.args.by + run.start; end = c.args.by + run.end; transitions = ws; structures = news })) (sym c.transitions_shifted.ensures)
    (shifted_reads c.args.by run news c.self.invariant c.structures_shifted.ensures.moved (omega (arith, end, high)) bytes (subst (IsOutcomeRun bytes) (sym c.self.view_is) h))
