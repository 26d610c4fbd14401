use Rattle.std.proofs.Common.{◌++◌, ◌∙◌, List, ℕ, ap, append_assoc, sym, subst}
use Rattle.std.proofs.lemmas.Result.{on_ok_weaker}
use Rattle.jx_line_values.specs.inside.Cutting.{HasTaken}
use Rattle.jx_line_values.specs.inside.RowsPart.{ArePlain}
use Rattle.jx_line_values.proofs.taking_rows.take_turn.Goals as goal

pub returns : goal.returns
returns c =
    let task = c.args.task.now in
    let turn = c.args.turn.now in
    on_ok_weaker c.feed.result
    (λ feeds before mine given said t h.
    subst (λ (l : List ℕ). HasTaken task l given said c.feed.new.self)
    (ap (λ (l : List ℕ). (before ++ t.plain) ++ l) c.deref-2.ensures.value ∙ append_assoc before t.plain turn.line.items ∙ ap (λ (l : List ℕ). before ++ l) (sym t.bytes_are))
    (feeds (before ++ t.plain) given said
    (c.in_ok-take_rows.ensures task before t.plain given said (subst (λ (l : List ℕ). ArePlain task t.plain turn.count l) (sym c.deref.ensures.value) t.are_plain) h)))
    c.feed.ensures
