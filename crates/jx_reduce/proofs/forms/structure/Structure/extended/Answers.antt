use Rattle.std.proofs.Common.{◌≡◌, ◌≤◌, ◌<◌, Some, sym, subst, ap, ◌∙◌}
use Rattle.jx_reduce.specs.Reduced.{depth_of, form_in}
use Rattle.jx_reduce.specs.Structure.{StructureValue, IsBefore, IsJoin, SpansIn}
use Rattle.jx_reduce.specs.inside.Structures.{followed_by, rest_tail, structure_of, IsSound, KnowsDepth}
use Rattle.jx_reduce.proofs.StructureJoins.{none_in, none_join, of_both}
use Rattle.jx_reduce.proofs.StructureReads.{begun, on_is}
use Rattle.jx_reduce.proofs.Structures.{in_on, join_on, sound_on}
use Rattle.jx_reduce.proofs.forms.structure.Structure.extended.Goals as goal

-- ---- the left has a form

pub invariant_of-result : goal.invariant_of-result
invariant_of-result c =
    let i = c.self.inside in
    let r = c.args.right.now in
    let e = c.in_ok-followed_by-in-Some.ensures in
    let t = form_in c.in-Some.rest.tail in
    let deep : depth_of c.in-Some.rest.tail ≡ i.depth = subst (KnowsDepth i.depth) c.in-Some.is c.self.invariant.1 in
    let same = on_is i.depth i.string i.rest c.in-Some.rest c.in_ok-followed_by-in-Some.field-0 (followed_by t r) c.in-Some.is e.mark e.form in (
      subst IsSound (sym same)
          (sound_on (structure_of i) r t (ap (λ (f : StructureValue). f.depth) c.self.view_is ∙ c.requires.depth) (ap rest_tail c.in-Some.is) (subst (λ l. IsBefore l r) (sym c.self.view_is) c.requires.before)
          c.self.invariant.0 (subst IsSound c.right.view_is c.right.invariant.0)),
      e.depth ∙ deep,
    )

pub returns-in_ok-followed_by-in-Some-clause-joined : goal.returns-in_ok-followed_by-in-Some-clause-joined
returns-in_ok-followed_by-in-Some-clause-joined c =
    let i = c.self.inside in
    let r = c.args.right.now in
    let e = c.in_ok-followed_by-in-Some.ensures in
    let t = form_in c.in-Some.rest.tail in
    let same = on_is i.depth i.string i.rest c.in-Some.rest c.in_ok-followed_by-in-Some.field-0 (followed_by t r) c.in-Some.is e.mark e.form in
    subst (λ l. IsJoin l r (begun i.depth i.string (Some c.in_ok-followed_by-in-Some.field-0))) c.self.view_is
    (subst (IsJoin (structure_of i) r) (sym same)
    (join_on (structure_of i) r t (ap (λ (f : StructureValue). f.depth) c.self.view_is ∙ c.requires.depth) (ap rest_tail c.in-Some.is) (subst (λ l. IsBefore l r) (sym c.self.view_is) c.requires.before)
    c.self.invariant.0 (subst IsSound c.right.view_is c.right.invariant.0)))

pub returns-in_ok-followed_by-in-Some-clause-marks : goal.returns-in_ok-followed_by-in-Some-clause-marks
returns-in_ok-followed_by-in-Some-clause-marks c = λ ms ns a b.
    of_both ms ns c.args.self c.args.right.now (begun c.self.inside.depth c.self.inside.string (Some c.in_ok-followed_by-in-Some.field-0)) c.requires.depth (ap (λ (f : StructureValue). f.depth) c.self.view_is) a b
    (returns-in_ok-followed_by-in-Some-clause-joined c)

pub returns-in_ok-followed_by-in-Some-clause-offsets : goal.returns-in_ok-followed_by-in-Some-clause-offsets
returns-in_ok-followed_by-in-Some-clause-offsets c low high a b =
    let i = c.self.inside in
    let r = c.args.right.now in
    let e = c.in_ok-followed_by-in-Some.ensures in
    let t = form_in c.in-Some.rest.tail in
    let same = on_is i.depth i.string i.rest c.in-Some.rest c.in_ok-followed_by-in-Some.field-0 (followed_by t r) c.in-Some.is e.mark e.form in
    subst (SpansIn low high) (sym same) (in_on (λ p. (low ≤ p) × (p < high)) (structure_of i) r t (ap rest_tail c.in-Some.is) (subst (SpansIn low high) (sym c.self.view_is) a) b)

-- ---- the left has at most a string

pub invariant_of-result-in-None : goal.invariant_of-result-in-None
invariant_of-result-in-None c =
    let i = c.self.inside in
    let r = c.args.right.now in
    let old = ap (begun i.depth i.string) c.in-None.is in
    let k = none_join i.depth i.string c.in_ok-string-in-None.string c.in_ok-string-in-None.rest r (ap (λ (f : StructureValue). f.depth) c.self.view_is ∙ c.requires.depth) c.in_ok-string-in-None.ensures
    (subst (λ l. IsBefore l r) (sym c.self.view_is ∙ old) c.requires.before) (subst IsSound old c.self.invariant.0) (subst IsSound c.right.view_is c.right.invariant.0) in
    (k.sound, k.knows)

pub returns-in_ok-string-in-None-clause-joined : goal.returns-in_ok-string-in-None-clause-joined
returns-in_ok-string-in-None-clause-joined c =
    let i = c.self.inside in
    let r = c.args.right.now in
    let old = ap (begun i.depth i.string) c.in-None.is in
    let k = none_join i.depth i.string c.in_ok-string-in-None.string c.in_ok-string-in-None.rest r (ap (λ (f : StructureValue). f.depth) c.self.view_is ∙ c.requires.depth) c.in_ok-string-in-None.ensures
    (subst (λ l. IsBefore l r) (sym c.self.view_is ∙ old) c.requires.before) (subst IsSound old c.self.invariant.0) (subst IsSound c.right.view_is c.right.invariant.0) in
    subst (λ l. IsJoin l r (begun i.depth c.in_ok-string-in-None.string c.in_ok-string-in-None.rest)) (sym old ∙ c.self.view_is) k.joined

pub returns-in_ok-string-in-None-clause-marks : goal.returns-in_ok-string-in-None-clause-marks
returns-in_ok-string-in-None-clause-marks c = λ ms ns a b.
    of_both ms ns c.args.self c.args.right.now (begun c.self.inside.depth c.in_ok-string-in-None.string c.in_ok-string-in-None.rest) c.requires.depth (ap (λ (f : StructureValue). f.depth) c.self.view_is) a b
    (returns-in_ok-string-in-None-clause-joined c)

pub returns-in_ok-string-in-None-clause-offsets : goal.returns-in_ok-string-in-None-clause-offsets
returns-in_ok-string-in-None-clause-offsets c low high a b =
    let i = c.self.inside in
    let old = ap (begun i.depth i.string) c.in-None.is in
    none_in (λ p. (low ≤ p) × (p < high)) i.depth i.string c.in_ok-string-in-None.string c.in_ok-string-in-None.rest c.args.right.now c.in_ok-string-in-None.ensures (subst (SpansIn low high) (sym c.self.view_is ∙ old) a) b
