use Rattle.std.proofs.Common.{[], refl, sym, ◌∙◌, arith}
use Rattle.jx_index.proofs.InOrders.{none_of}
use Rattle.jx_find.proofs.Soughts.{has_plain, has_token, separator_plain, separator_tells, skip_tells}
use Rattle.jx_find.proofs.on_slice.OnSliceTokenSink.begin.Goals as goal

pub returns-in-Comma-clause-seen : goal.returns-in-Comma-clause-seen
returns-in-Comma-clause-seen g c = λ marks ends h.
    let k = c.args.self.now in
    has_plain g.B.Before.held g.B.Before.slice g.B.Before.edges marks ends k.slice.now k.base k.edges.now k.seeker c.args.mark _ k.seeker k.begun k.name.items refl
    (separator_plain c.args.mark.kind c.in-Comma.is) (none_of k.begun c.requires) (separator_tells k.edges.now c.args.mark.kind _ 0 [] k.seeker c.in-Comma.is) h

pub returns-then-has_end-clause-seen : goal.returns-then-has_end-clause-seen
returns-then-has_end-clause-seen g c = λ marks ends h.
    let k = c.args.self.now in
    has_token g.B.Before.held g.B.Before.slice g.B.Before.edges marks ends k.slice.now k.base k.edges.now k.seeker c.args.mark c.in_ok-at.at k.begun k.name.items c.in_ok-at.ensures
    (sym c.has_end.ensures ∙ c.if-has_end.true) (none_of k.begun c.requires) h

pub returns-then-skipped-ne0 : goal.returns-then-skipped-ne0
returns-then-skipped-ne0 g c = record {
  seen = λ marks ends h.
      let k = c.args.self.now in
      has_plain g.B.Before.held g.B.Before.slice g.B.Before.edges marks ends k.slice.now k.base k.edges.now k.seeker c.args.mark _ _ k.begun k.name.items refl
      (sym c.has_end.ensures ∙ c.if-has_end.false) (none_of k.begun c.requires)
      (skip_tells k.edges.now c.args.mark.kind _ 0 [] k.seeker _ (omega (arith, c.if-skipped-ne0.true)) c.in_ok-self.ensures) h;
  turn = c.requires ∙ sym c.if-has_end.false ∙ c.has_end.ensures;
}

pub returns-clause-seen : goal.returns-clause-seen
returns-clause-seen g c = λ marks ends h.
    let k = c.args.self.now in
    has_plain g.B.Before.held g.B.Before.slice g.B.Before.edges marks ends k.slice.now k.base k.edges.now k.seeker c.args.mark c.in_ok-at-2.at c.tell.new.self k.begun k.name.items c.in_ok-at-2.ensures
    (sym c.has_end.ensures ∙ c.if-has_end.false) (none_of k.begun c.requires) (record { noted = c.in_ok-tell.ensures.noted; ready = c.in_ok-tell.ensures.next }) h
