use Rattle.jx_run.specs.declared.sequences.element_verdict.JudgedElement.{JudgedElement}
use Rattle.jx_index.proofs.RefusedNames.{has_text, judged_unless_named, left_so, span_ordered, span_within}
use Rattle.jx_index.proofs.judging.element_by_names.Goals as goal

pub returns-then-not-may_be_refused : goal.returns-then-not-may_be_refused
returns-then-not-may_be_refused c =
    λ p h. left_so c.args.settings.now c.args.input.now p c.args.element h.judged (λ both. absurd (cc (c.may_be_refused.ensures.1 both, c.if-not-may_be_refused.true)))

pub repeated_in_text-requires : goal.repeated_in_text-requires
repeated_in_text-requires c =
    let text = c.args.input.now in
    let settings = c.args.settings.now in
    let j : JudgedElement = c.args.element in
    let both = c.may_be_refused.ensures.0 c.if-not-may_be_refused.false in
    let judged = c.requires in
    record {
      ordered = span_ordered settings text judged.0 j judged.1;
      within = span_within settings text judged.0 j judged.1;
      is_text = has_text settings text judged.0 j judged.1 both.1;
    }

pub returns : goal.returns
returns c =
    let j : JudgedElement = c.args.element in
    let both = c.may_be_refused.ensures.0 c.if-not-may_be_refused.false in
    λ p h. judged_unless_named c.args.settings.now c.args.input.now p j h both.1 both.0 c.in_ok-name.name c.in_ok-name.ensures c.judged_unless.result c.judged_unless.ensures
