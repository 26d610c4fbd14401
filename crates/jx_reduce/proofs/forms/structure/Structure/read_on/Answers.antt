use Rattle.std.proofs.Common.{◌≡◌, ◌≤◌, ◌<◌, List, length, Some, sym, subst, ap, ◌∙◌}
use Rattle.jx_reduce.specs.Marks.{of_marks}
use Rattle.jx_reduce.specs.Offsets.{RisingFrom}
use Rattle.jx_reduce.specs.Read.{read}
use Rattle.jx_reduce.specs.Reduced.{depth_of, form_in}
use Rattle.jx_reduce.specs.Structure.{StructureValue, answer, SpansIn}
use Rattle.jx_reduce.specs.inside.Structures.{rest_tail, structure_of, IsSound, KnowsDepth, MayFollow}
use Rattle.jx_reduce.specs.declared.table.expect.Expect.{Expect}
use Rattle.jx_reduce.specs.declared.table.holder.Holder.{Holder}
use Rattle.jx_reduce.proofs.StructureReads.{begun, begun_knows, begun_sound, more_in, more_reads, more_rising, on_in, on_is, on_reads, on_sound}
use Rattle.jx_reduce.proofs.forms.structure.Structure.read_on.Goals as goal

-- ---- marks stand behind the string

pub invariant_of-result : goal.invariant_of-result
invariant_of-result c =
    let i = c.self.inside in
    let e = c.in_ok-read_on-in-Some.ensures in
    let t = form_in c.in-Some.rest.tail in
    let deep : depth_of c.in-Some.rest.tail ≡ i.depth = subst (KnowsDepth i.depth) c.in-Some.is c.self.invariant.1 in
    let same = on_is i.depth i.string i.rest c.in-Some.rest c.in_ok-read_on-in-Some.field-0 (of_marks i.depth t c.args.marks.now) c.in-Some.is e.mark (e.form ∙ ap (λ d. of_marks d t c.args.marks.now) deep) in (
      subst IsSound (sym same)
          (on_sound (structure_of i) t c.args.marks.now (ap rest_tail c.in-Some.is) (subst (λ f. MayFollow f c.args.marks.now) (sym c.self.view_is) c.requires.behind) c.self.invariant.0),
      e.depth ∙ deep,
    )

pub returns-in_ok-read_on-in-Some-clause-reads : goal.returns-in_ok-read_on-in-Some-clause-reads
returns-in_ok-read_on-in-Some-clause-reads c =
    let i = c.self.inside in
    let ms = c.args.marks.now in
    let e = c.in_ok-read_on-in-Some.ensures in
    let t = form_in c.in-Some.rest.tail in
    let deep : depth_of c.in-Some.rest.tail ≡ i.depth = subst (KnowsDepth i.depth) c.in-Some.is c.self.invariant.1 in
    let same = on_is i.depth i.string i.rest c.in-Some.rest c.in_ok-read_on-in-Some.field-0 (of_marks i.depth t ms) c.in-Some.is e.mark (e.form ∙ ap (λ d. of_marks d t ms) deep) in
    let new = begun i.depth i.string (Some c.in_ok-read_on-in-Some.field-0) in
    subst (λ (f : StructureValue). (e : Expect) (s : List Holder) → length s ≤ f.depth → answer new e s ≡ read f.depth ms (answer f e s)) c.self.view_is
    (λ x s short. ap (λ f. answer f x s) same
    ∙ on_reads (structure_of i) t ms (ap rest_tail c.in-Some.is) (subst (λ f. MayFollow f ms) (sym c.self.view_is) c.requires.behind) c.self.invariant.0 x s short)

pub returns-in_ok-read_on-in-Some-clause-offsets : goal.returns-in_ok-read_on-in-Some-clause-offsets
returns-in_ok-read_on-in-Some-clause-offsets c low high a b =
    let i = c.self.inside in
    let ms = c.args.marks.now in
    let e = c.in_ok-read_on-in-Some.ensures in
    let t = form_in c.in-Some.rest.tail in
    let deep : depth_of c.in-Some.rest.tail ≡ i.depth = subst (KnowsDepth i.depth) c.in-Some.is c.self.invariant.1 in
    let same = on_is i.depth i.string i.rest c.in-Some.rest c.in_ok-read_on-in-Some.field-0 (of_marks i.depth t ms) c.in-Some.is e.mark (e.form ∙ ap (λ d. of_marks d t ms) deep) in
    subst (SpansIn low high) (sym same) (on_in (λ p. (low ≤ p) × (p < high)) (structure_of i) t ms (ap rest_tail c.in-Some.is) (subst (SpansIn low high) (sym c.self.view_is) a) b)

-- ---- at most a string so far

pub invariant_of-result-in-None : goal.invariant_of-result-in-None
invariant_of-result-in-None c =
    let i = c.self.inside in
    let ms = c.args.marks.now in
    let more = c.split_string-string.result.1.now in
    let e = c.split_string-string.ensures in
    let old = ap (begun i.depth i.string) c.in-None.is in (
      begun_sound i.depth c.split_string-string.result.0 more c.in_ok-rest-in-None.rest c.in_ok-rest-in-None.ensures
          (subst (RisingFrom 0) (sym e.same) (more_rising i.depth i.string ms (subst (λ f. MayFollow f ms) (sym c.self.view_is ∙ old) c.requires.behind) (subst IsSound old c.self.invariant.0))),
      begun_knows i.depth more c.in_ok-rest-in-None.rest c.in_ok-rest-in-None.ensures,
    )

pub returns-in_ok-rest-in-None-clause-reads : goal.returns-in_ok-rest-in-None-clause-reads
returns-in_ok-rest-in-None-clause-reads c =
    let i = c.self.inside in
    let ms = c.args.marks.now in
    let more = c.split_string-string.result.1.now in
    let e = c.split_string-string.ensures in
    let old = ap (begun i.depth i.string) c.in-None.is in
    let new = begun i.depth c.split_string-string.result.0 c.in_ok-rest-in-None.rest in
    subst (λ (f : StructureValue). (e : Expect) (s : List Holder) → length s ≤ f.depth → answer new e s ≡ read f.depth ms (answer f e s)) (sym old ∙ c.self.view_is)
    (more_reads i.depth i.string c.split_string-string.result.0 ms more c.in_ok-rest-in-None.rest c.in_ok-rest-in-None.ensures e.first e.same
    (subst (λ f. MayFollow f ms) (sym c.self.view_is ∙ old) c.requires.behind) (subst IsSound old c.self.invariant.0))

pub returns-in_ok-rest-in-None-clause-offsets : goal.returns-in_ok-rest-in-None-clause-offsets
returns-in_ok-rest-in-None-clause-offsets c low high a b =
    let i = c.self.inside in
    let more = c.split_string-string.result.1.now in
    let e = c.split_string-string.ensures in
    let old = ap (begun i.depth i.string) c.in-None.is in
    more_in (λ p. (low ≤ p) × (p < high)) i.depth i.string c.split_string-string.result.0 c.args.marks.now more c.in_ok-rest-in-None.rest c.in_ok-rest-in-None.ensures e.same
    (subst (SpansIn low high) (sym c.self.view_is ∙ old) a) b
