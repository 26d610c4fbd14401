use Rattle.std.proofs.Common.{◌≡◌, ◌++◌, ◌∙◌, ℕ, List, subst, sym}
use Rattle.std.specs.Prelude.{OnOk}
use Rattle.jx_line_values.proofs.Escapes.{themselves}
use Rattle.jx_line_values.proofs.cells.add_escaped.Goals as goal

pub returns-then-are_escaped_as_themselves : goal.returns-then-are_escaped_as_themselves
returns-then-are_escaped_as_themselves c =
    subst (λ (xs : List ℕ). OnOk c.add_bytes.result (c.add_bytes.new.out.items ≡ c.args.out.now.items ++ xs))
    (sym (themselves c.args.text.now (sym c.are_escaped_as_themselves.ensures ∙ c.if-are_escaped_as_themselves.true))) c.add_bytes.ensures
