use Rattle.std.proofs.Common.{ℕ, length, sym, ap, ◌∙◌, arith}
use Rattle.std.specs.Prelude.{Option}
use Rattle.std.proofs.lemmas.List.{take_all}
use Rattle.jx_serve.specs.Values.{before_at}
use Rattle.jx_serve.proofs.symbols.count_before.Goals as goal

pub returns-in-Some-clause-rows : goal.returns-in-Some-clause-rows
returns-in-Some-clause-rows c = ap (λ (o : Option ℕ). before_at o c.args.rows.now) (sym c.in-Some.is ∙ c.first_behind.ensures.first)

pub returns-in-None-clause-rows : goal.returns-in-None-clause-rows
returns-in-None-clause-rows c =
    take_all (length c.args.rows.now) c.args.rows.now (omega arith) ∙ ap (λ (o : Option ℕ). before_at o c.args.rows.now) (sym c.in-None.is ∙ c.first_behind.ensures.first)
