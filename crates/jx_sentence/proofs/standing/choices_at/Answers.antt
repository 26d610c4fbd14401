use Rattle.std.proofs.Common.{◌≡◌, List, sym, ◌∙◌, ap}
use Rattle.jx_lex.specs.Classes.{class_at}
use Rattle.jx_lex.specs.Moves.{move}
use Rattle.jx_reduce.specs.Read.{top}
use Rattle.jx_reduce.specs.declared.table.holder.Holder.{Holder}
use Rattle.jx_sentence.specs.Choices.{are_named, choices_of, step_allowed}
use Rattle.jx_sentence.specs.declared.choice.Choice.{Choice}
use Rattle.jx_sentence.proofs.Exact.{exact}
use Rattle.jx_sentence.proofs.Table.{exact_choices, whole_steps}
use Rattle.jx_sentence.proofs.standing.choices_at.Goals as goal

pub returns-clause-allowed : goal.returns-clause-allowed
returns-clause-allowed c = λ limit from bytes byte stands.
    let s = c.args.standing.now in
    let named : are_named (choices_of c.choices_for.result) (class_at byte) ≡ step_allowed (move s.state byte) s.expect (top stands.open_ones) =
    ap (λ (choices : List Choice). are_named choices (class_at byte)) c.choices_for.ensures
    ∙ exact_choices s.state s.expect s.top (class_at byte)
    ∙ ap (λ (h : Holder). step_allowed (move s.state byte) s.expect h) stands.innermost in
    let by = exact c.reader_and_grammar.ensures.begins c.reader_and_grammar.ensures.too_deep limit from bytes s.state s.expect stands.open_ones byte stands.reading (whole_steps s.state (class_at byte)) in
    ((λ h. by.0 (sym named ∙ h)), (λ h. named ∙ by.1 h))
