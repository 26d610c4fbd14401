use Rattle.std.proofs.Common.{◌∙◌, ap, sym, subst, arith, All}
use Rattle.jx_summary.specs.declared.span.Span.{Span}
use Rattle.jx_lex.specs.Ordinal.{all_states}
use Rattle.jx_run.specs.OutcomeRun.{IsFormWithin}
use Rattle.jx_run.proofs.Reducing.{tracks_in, tracks_rise, each-length, each_there, states-many, outcomes_are_of}
use Rattle.jx_run.proofs.runs.outcome_run.OutcomeRun.of_map.Goals as goal

pub all_transitions-requires : goal.all_transitions-requires
all_transitions-requires c = record {
  rising = tracks_rise c.args.map.now c.requires.of.0 c.requires.of.1;
  inside = tracks_in c.args.map.now c.requires.of.0 c.requires.of.1;
}

pub invariant_of-result : goal.invariant_of-result
invariant_of-result c =
    let map = c.args.map.now in
    let ws = c.in_ok-transitions.transitions.items in
    let fs = c.in_ok-transitions.structures.items in
    let made = c.in_ok-transitions.ensures in
    let long = c.requires.of.1.long in
    let place = c.span.ensures.value in
    let start = ap (λ (s : Span). s.start) place in
    let end = ap (λ (s : Span). s.end) place in
    record {
      order = omega (arith, long, start, end);
      all = each-length c.args.depth map fs all_states ws made.transitions ∙ states-many;
      few = made.few;
      there = each_there c.args.depth map fs all_states ws made.transitions;
      within = subst (λ (s : Span). All (IsFormWithin c.args.depth s.start s.end) fs) (sym place) made.within;
    }

pub returns-clause-of : goal.returns-clause-of
returns-clause-of c bytes h =
    let place = c.span.ensures.value in
    outcomes_are_of
    (record { depth = c.args.depth; start = c.span.result.start; end = c.span.result.end; transitions = c.in_ok-transitions.transitions.items; structures = c.in_ok-transitions.structures.items })
    c.args.map.now bytes (ap (λ (s : Span). s.start) place) (ap (λ (s : Span). s.end) place) h c.in_ok-transitions.ensures.transitions
