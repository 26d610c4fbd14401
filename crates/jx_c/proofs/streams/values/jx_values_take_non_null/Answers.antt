use Rattle.std.proofs.Common.{rules, ◌≡◌, Some, subst, sym, ◌∙◌}
use Rattle.std.proofs.lemmas.Option.{same_Some}
use Rattle.jx_c.specs.Values.{IsTaken, StreamValue}
use Rattle.jx_c.proofs.streams.values.jx_values_take_non_null.Goals as goal

pub returns-clause-taken : goal.returns-clause-taken
returns-clause-taken c = λ s held ok.
    let here : s ≡ c.deref_mut.result.now = same_Some _ _ (sym held ∙ c.in-Some.ensures.taken) ∙ sym c.deref_mut.ensures.value in
    let put : c.replace-2.new.self.held ≡ Some c.move_out-status.new.whole = search rules in
    let e = c.move_out-status.ensures in
    subst (λ (t : StreamValue). IsTaken t c.args.lines.now c.move_out-status.new.lines c.move_out-status.new.size c.replace-2.new.self.held) (sym here)
    (record { placed = e.placed ok; due = e.due; s = c.move_out-status.new.whole; holds = put; none_wait = e.none_wait ok; gives = e.taken ok })
