use Rattle.std.proofs.Common.{◌≡◌, ◌-◌, length, ap, subst, arith}
use Rattle.std.specs.Prelude.{slice_range}
use Rattle.std.proofs.lemmas.List.Edits.{length-between}
use Rattle.jx_lex.specs.declared.alphabet.state.LexState.{LexState}
use Rattle.jx_run.specs.OutcomeRun.{OutcomeRunValue}
use Rattle.jx_run.specs.inside.Rest.{AreReadTransitions, IsRestOf}
use Rattle.jx_run.proofs.RestTransitions.{transitions_of_rest}
use Rattle.jx_run.proofs.runs.outcome_run.OutcomeRun.rest.Goals as goal

pub returns-clause-rest : goal.returns-clause-rest
returns-clause-rest c =
    let a = c.self.inside in
    let text = c.args.text.now in
    let bytes = slice_range text a.span.end c.args.end in
    let fs = c.in_ok-transitions.structures.items in
    let ws = c.in_ok-transitions.transitions.items in
    let left : OutcomeRunValue = record { depth = a.depth; start = a.span.start; end = a.span.end; transitions = a.transitions.items; structures = a.structures.items } in
    let run : OutcomeRunValue = record { depth = a.depth; start = a.span.end; end = c.args.end; transitions = ws; structures = fs } in
    let long : length bytes ≡ c.args.end - a.span.end = length-between text a.span.end c.args.end c.requires.1 in
    let low = c.requires.0 in
    let end = ap (λ (v : OutcomeRunValue). v.end) c.self.view_is in
    subst (λ (v : OutcomeRunValue). IsRestOf v (slice_range text v.end c.args.end) run) c.self.view_is
    (transitions_of_rest left run bytes c.self.invariant (omega (arith, long, low, end))
    (subst (λ reached. (s : LexState) → AreReadTransitions a.depth a.span.end bytes reached fs ws s) c.deref.ensures.value c.in_ok-transitions.ensures.reads))
