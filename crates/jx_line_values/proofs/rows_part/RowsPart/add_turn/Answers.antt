use Rattle.std.proofs.Common.{◌++◌, ◌∙◌, List, ℕ, ap}
use Rattle.jx_line_values.specs.declared.rows_part.Turn.{Turn}
use Rattle.jx_line_values.proofs.PartRows.{turn_made}
use Rattle.jx_line_values.proofs.rows_part.RowsPart.add_turn.Goals as goal

pub returns : goal.returns
returns c = λ task before h.
    let turn : Turn = record { count = c.replace-count.result; rows = c.replace-rows.result; line = c.extend_from_slice.new.self } in
    turn_made task before c.args.bytes.now c.args.self.now _ turn h c.replace-count.ensures.value (ap (λ v. v.items) c.replace-rows.ensures.value)
    (c.in_ok-extend_from_slice.ensures.items ∙ ap (λ (l : List ℕ). l ++ c.args.bytes.now) c.new-line.ensures.items) c.in_ok-push.ensures.items c.replace-count.ensures.after
    (ap (λ v. v.items) c.replace-rows.ensures.after ∙ c.new.ensures.items)
