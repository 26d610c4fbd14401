use Rattle.std.proofs.Common.{sym, subst}
use Rattle.jx_index.specs.inside.Building.{on_mark}
use Rattle.jx_names.specs.inside.KeptNames.{Stands, kept}
use Rattle.jx_names.proofs.Standing.{stands_value, value_alone}
use Rattle.jx_names.proofs.open_names.OpenNames.scalar.Goals as goal

pub returns-in_default : goal.returns-in_default
returns-in_default c = λ text b kind at end token other x.
    let k = kept c.args.self.now in
    subst (Stands text (on_mark kind at end b)) (value_alone k c.in_default.is) (stands_value text b k x kind at end token other)

pub returns : goal.returns
returns c = λ text b kind at end token other x.
    let k = kept c.args.self.now in
    subst (Stands text (on_mark kind at end b)) (sym c.in_ok-begin_value.ensures) (stands_value text b k x kind at end token other)
