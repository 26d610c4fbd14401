use Rattle.std.proofs.Common.{◌≡◌, ◌≤◌, ◌+◌, ◌-◌, ◌^◌, List, length, sym, subst, ap, ◌∙◌}
use Rattle.jx_reduce.specs.Shift.{shifted}
use Rattle.jx_reduce.specs.Structure.{StructureValue, answer, SpansIn}
use Rattle.jx_reduce.specs.inside.Structures.{structure_of, IsSound}
use Rattle.jx_reduce.specs.declared.table.expect.Expect.{Expect}
use Rattle.jx_reduce.specs.declared.table.holder.Holder.{Holder}
use Rattle.jx_reduce.proofs.StructureReads.{begun}
use Rattle.jx_reduce.proofs.StructureShifts.{answer_moved, low_of, moved_is, shifted_in, shifted_sound}
use Rattle.jx_reduce.proofs.forms.structure.Structure.shifted.Goals as goal

pub invariant_of-result : goal.invariant_of-result
invariant_of-result c =
    let i = c.self.inside in
    let e = c.moved.ensures in
    let low = low_of c.args.by (structure_of i) (subst (SpansIn 0 (2 ^ 64 - c.args.by)) (sym c.self.view_is) c.requires.fits) in (
      subst IsSound (sym (moved_is c.args.by i.depth i.string c.shifted.result i.rest c.moved.result c.shifted.ensures e.head e.tail)) (shifted_sound c.args.by (structure_of i) low c.self.invariant.0),
      e.depth i.depth c.self.invariant.1,
    )

pub returns-clause-answers : goal.returns-clause-answers
returns-clause-answers c =
    let i = c.self.inside in
    let e = c.moved.ensures in
    let low = low_of c.args.by (structure_of i) (subst (SpansIn 0 (2 ^ 64 - c.args.by)) (sym c.self.view_is) c.requires.fits) in
    let same = moved_is c.args.by i.depth i.string c.shifted.result i.rest c.moved.result c.shifted.ensures e.head e.tail in
    let new = begun i.depth c.shifted.result c.moved.result in
    subst (λ (f : StructureValue). (x : Expect) (s : List Holder) → length s ≤ f.depth → answer new x s ≡ shifted c.args.by (answer f x s)) c.self.view_is
    (λ x s short. ap (λ f. answer f x s) same ∙ answer_moved c.args.by (structure_of i) x s c.self.invariant.0 low short)

pub returns-clause-offsets : goal.returns-clause-offsets
returns-clause-offsets c low high a =
    let i = c.self.inside in
    let e = c.moved.ensures in
    let fit = low_of c.args.by (structure_of i) (subst (SpansIn 0 (2 ^ 64 - c.args.by)) (sym c.self.view_is) c.requires.fits) in
    subst (SpansIn (c.args.by + low) (c.args.by + high)) (sym (moved_is c.args.by i.depth i.string c.shifted.result i.rest c.moved.result c.shifted.ensures e.head e.tail))
    (shifted_in c.args.by low high (structure_of i) fit (subst (SpansIn low high) (sym c.self.view_is) a))
