use Rattle.std.proofs.Common.{subst, sym}
use Rattle.std.proofs.lemmas.List.Elements.{All-set}
use Rattle.jx_values.specs.inside.Kept.{IsKeptOf}
use Rattle.jx_values.proofs.gathered.take_kept.Goals as goal

pub returns-then-number-len-clause-left : goal.returns-then-number-len-clause-left
returns-then-number-len-clause-left c = λ text all.
    All-set (IsKeptOf text) c.args.kept.now.items c.args.number c.replace.new.dest (subst (IsKeptOf text) (sym c.replace.ensures.after) (c.new-none.ensures text)) all
