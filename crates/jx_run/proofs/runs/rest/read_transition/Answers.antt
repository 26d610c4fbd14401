use Rattle.std.proofs.Common.{◌≡◌, ◌-◌, ◌∷◌, [], length, All, ap, sym, subst, ◌∙◌, arith}
use Rattle.std.specs.Prelude.{slice_get}
use Rattle.std.proofs.lemmas.List.{length-append}
use Rattle.jx_run.specs.inside.Joins.{IsAbove}
use Rattle.jx_run.specs.OutcomeRun.{IsFormWithin}
use Rattle.jx_run.proofs.Reducing.{all_push, push_above}
use Rattle.jx_run.proofs.Transitions.{at_end}
use Rattle.jx_run.proofs.runs.rest.read_transition.Goals as goal

pub returns-clause-above : goal.returns-clause-above
returns-clause-above c = subst (IsAbove c.args.structures.now.items) (sym c.in_ok-push.ensures.items) (push_above c.args.structures.now.items c.in_ok-exit.marks)

pub returns-clause-within : goal.returns-clause-within
returns-clause-within c h =
    let P = IsFormWithin c.args.depth c.args.from c.args.to in
    subst (All P) (sym c.in_ok-push.ensures.items) (all_push P c.args.structures.now.items c.in_ok-exit.marks h c.in_ok-exit.ensures.within)

pub returns-clause-reads : goal.returns-clause-reads
returns-clause-reads c =
    let fs = c.args.structures.now.items in
    let all = ap length c.in_ok-push.ensures.items ∙ length-append fs (c.in_ok-exit.marks ∷ []) in
    let count = c.len.ensures in
    let last : c.len.result - 1 ≡ length fs = omega (arith, all, count) in
    record {
      form = c.in_ok-exit.marks;
      at = ap (slice_get c.push.new.self.items) last ∙ ap (λ xs. slice_get xs (length fs)) c.in_ok-push.ensures.items ∙ at_end fs c.in_ok-exit.marks;
      reads = c.in_ok-exit.ensures.reads;
    }
