use Rattle.std.proofs.Common.{sym, subst, IsTrue, ◌∙◌}
use Rattle.jx_lex.specs.declared.alphabet.class.Class.{Class}
use Rattle.jx_lex.specs.Classes.{is_in, class_at}
use Rattle.jx_lex.proofs.ByteTable.{cell_is_class, class_has}
use Rattle.jx_lex.proofs.ClassTable.{class_is}
use Rattle.jx_lex.proofs.alphabet.class.class_of.Goals as goal

pub returns-clause-found : goal.returns-clause-found
returns-clause-found c = cell_is_class c.args.byte _ _ c.ranges.byte.fits

pub returns-clause-row : goal.returns-clause-row
returns-clause-row c =
    let Has : Class → Type 0 = λ class. IsTrue (is_in class c.args.byte) in
    let has : Has (class_at c.args.byte) = class_has c.args.byte c.ranges.byte.fits in
    subst Has (sym (cell_is_class c.args.byte _ _ c.ranges.byte.fits)) has

pub returns-clause-only : goal.returns-clause-only
returns-clause-only c = λ class has. sym (class_is class c.args.byte has) ∙ sym (cell_is_class c.args.byte _ _ c.ranges.byte.fits)
