use Rattle.std.proofs.Common.{◌≡◌, sym, ◌∙◌}
use Rattle.std.proofs.lemmas.Bool.{eqb-true}
use Rattle.jx_file_query.proofs.PartNumbers.{between}
use Rattle.jx_file_query.proofs.split_passing.is_in_part.Goals as goal

pub returns-then-first-number : goal.returns-then-first-number
returns-then-first-number c = λ same.
    between c.args.aim c.args.number c.args.span (sym (c.in-Some-Some.ensures) ∙ c.if-first-number.true) (sym (c.in-Some-Some.ensures') ∙ eqb-true c.in-Some-Some.last c.args.number same)
