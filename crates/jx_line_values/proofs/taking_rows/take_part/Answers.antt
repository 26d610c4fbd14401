use Rattle.std.proofs.Common.{◌++◌, ◌∙◌, List, ℕ, ap, append_assoc, sym, subst}
use Rattle.std.proofs.lemmas.Result.{on_ok_weaker}
use Rattle.jx_line_values.specs.inside.Cutting.{HasTaken}
use Rattle.jx_line_values.specs.inside.RowsPart.{ArePlain, AreTurns}
use Rattle.jx_line_values.proofs.taking_rows.take_part.Goals as goal

pub returns : goal.returns
returns c =
    let task = c.args.task.now in
    let part = c.args.part.now in
    on_ok_weaker c.take_rows.result
    (λ takes bytes ys given said p h.
    subst (λ (l : List ℕ). HasTaken task l given said c.take_rows.new.self) (append_assoc bytes p.front p.plain ∙ ap (λ (l : List ℕ). bytes ++ l) (sym p.bytes_are))
    (takes task (bytes ++ p.front) p.plain given said (subst (λ (l : List ℕ). ArePlain task p.plain part.count l) (sym c.deref-2.ensures.value) p.are_plain)
    (c.in_ok-take_turns.ensures bytes p.front given said (subst (λ ts. AreTurns task p.front ts) (sym c.deref.ensures.value) p.turns) h)))
    c.take_rows.ensures
