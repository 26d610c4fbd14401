use Rattle.std.proofs.Common.{◌≡◌, ◌≤◌, List, [], ◌∷◌, ◌++◌, length, true, false, Some, sym, ap, subst, ◌∙◌}
use Rattle.jx_reduce.specs.Read.{read}
use Rattle.jx_reduce.specs.Reducer.{ReducerValue, HasReduced, past}
use Rattle.jx_reduce.specs.Structure.{StructureValue, answer}
use Rattle.jx_reduce.specs.inside.Reducers.{reducer_of}
use Rattle.jx_reduce.specs.inside.Structures.{of_making, MayFollow}
use Rattle.jx_reduce.specs.declared.table.expect.Expect.{Expect}
use Rattle.jx_reduce.specs.declared.table.holder.Holder.{Holder}
use Rattle.jx_lex.specs.declared.alphabet.mark.Mark.{Mark}
use Rattle.jx_reduce.proofs.OneByOne.{below_after, may_follow, not_rising, one_more, read_step, value, Keeps}
use Rattle.jx_reduce.proofs.reducing.reducer.Reducer.read.Goals.{then-not-self-via-then-not-self, then-not-self-via-else-not-self+then-not-is_past}
use Rattle.jx_reduce.proofs.reducing.reducer.Reducer.read.Goals as goal

pub returns-then-not-self-clause-marks : goal.returns-then-not-self-clause-marks
returns-then-not-self-clause-marks c marks h =
    let i = c.self.inside in
    let falls : i.rising ≡ true → past i.last ≤ c.args.mark.at → ⊥ = elim c.then-not-self.branch [
      | then-not-self-via-then-not-self w ↦ λ r up. absurd (cc (r, w.if-not-self.true))
      | then-not-self-via-else-not-self+then-not-is_past w ↦ λ r up. let t = w.is_past.ensures.1 up in absurd (cc (t, w.if-not-is_past.true))
    ] in
    not_rising (reducer_of i) (value i.depth (of_making i.depth i.making) i.last false) c.args.mark falls marks (subst (HasReduced marks) (sym c.self.view_is) h)

pub read_on-requires : goal.read_on-requires
read_on-requires c =
    let i = c.self.inside in
    let f = of_making i.depth i.making in
    let is : c.structure-structure.result ≡ f =
    c.structure-structure.ensures.same ∙ ap (λ (r : ReducerValue). r.structure) c.replace.ensures.value ∙ sym (ap (λ (r : ReducerValue). r.structure) c.self.view_is) in
    record {
      behind = subst (λ f. MayFollow f (c.args.mark ∷ [])) (sym is)
          (may_follow f (past i.last) c.args.mark (c.self.invariant.ready c.if-not-self.false).below (c.is_past.ensures.0 c.if-not-is_past.false));
    }

pub behind-requires : goal.behind-requires
behind-requires c =
    let i = c.self.inside in
    let f = of_making i.depth i.making in
    let is : c.structure-structure.result ≡ f =
    c.structure-structure.ensures.same ∙ ap (λ (r : ReducerValue). r.structure) c.replace.ensures.value ∙ sym (ap (λ (r : ReducerValue). r.structure) c.self.view_is) in
    record {
      below = below_after f c.in_ok-read_on.field-0 (past i.last) c.args.mark (c.self.invariant.ready c.if-not-self.false).below (c.is_past.ensures.0 c.if-not-is_past.false)
          (subst (λ f. Keeps f c.in_ok-read_on.field-0 c.args.mark) is c.in_ok-read_on.ensures.offsets);
    }

-- what reading these marks makes of a structure
abbrev Reads : List Mark → StructureValue → StructureValue → Type 0
Reads ms old new = (e : Expect) (s : List Holder) → length s ≤ old.depth → answer new e s ≡ read old.depth ms (answer old e s)

pub returns-clause-marks : goal.returns-clause-marks
returns-clause-marks c marks h =
    let i = c.self.inside in
    let f = of_making i.depth i.making in
    let g = c.in_ok-read_on.field-0 in
    let is : c.structure-structure.result ≡ f =
    c.structure-structure.ensures.same ∙ ap (λ (r : ReducerValue). r.structure) c.replace.ensures.value ∙ sym (ap (λ (r : ReducerValue). r.structure) c.self.view_is) in
    subst (λ r. HasReduced (marks ++ c.args.mark ∷ []) r) (sym (c.drop.view_is ∙ c.behind.ensures))
    (one_more (reducer_of i) (value g.depth g (Some c.args.mark.at) true) c.args.mark
    (λ may rising up.
    read_step (reducer_of i) g.depth g c.args.mark (c.in_ok-read_on.ensures.depth ∙ ap (λ (f : StructureValue). f.depth) is)
    (subst (λ f. Reads (c.args.mark ∷ []) f g) is c.in_ok-read_on.ensures.reads)
    (subst (λ f. Keeps f g c.args.mark) is c.in_ok-read_on.ensures.offsets))
    marks (subst (HasReduced marks) (sym c.self.view_is) h))
