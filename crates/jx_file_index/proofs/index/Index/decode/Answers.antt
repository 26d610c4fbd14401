use Rattle.std.proofs.Common.{Option, sym, subst, ◌∙◌}
use Rattle.std.proofs.lemmas.Result.{err_from_is_err_and}
use Rattle.std.specs.Prelude.{IfNone, IfSome}
use Rattle.jx_file_index.specs.declared.index.Index.{Index}
use Rattle.jx_file_index.specs.Saved.{HasItsEntries, HasItsLevels, SaysSame}
use Rattle.jx_file_index.proofs.Decodings.{same_spelt}
use Rattle.jx_file_index.proofs.index.Index.decode.Goals as goal

pub joined_again-requires : goal.joined_again-requires
joined_again-requires c = subst HasItsEntries (sym c.in_ok-read.ensures.same) c.in_ok-said.ensures.has

pub returns-clause-levels : goal.returns-clause-levels
returns-clause-levels c =
    subst HasItsLevels (sym c.in_ok-index-in-Some.ensures.same) (subst (λ (o : Option Index). IfSome o HasItsLevels) c.in-Some.is c.in_ok-made.ensures.levels)

pub returns-clause-reads : goal.returns-clause-reads
returns-clause-reads c = λ i savable is.
    let read = c.in_ok-read.read in
    let same = subst (λ (x : Index). SaysSame x i) (sym c.in_ok-read.ensures.same) (c.in_ok-said.ensures.reads i savable (c.in_ok-head.ensures.reads i savable is) is) in
    subst (λ (x : Index). SaysSame x i) (sym c.in_ok-index-in-Some.ensures.same)
    ((subst (λ (o : Option Index). IfSome o (λ x. (j : Index) → HasItsLevels j → SaysSame read j → SaysSame x j)) c.in-Some.is c.in_ok-made.ensures.reads) i savable.has same)

pub returns-in-None-clause-only : goal.returns-in-None-clause-only
returns-in-None-clause-only c = λ i savable is.
    let read = c.in_ok-read.read in
    let same = subst (λ (x : Index). SaysSame x i) (sym c.in_ok-read.ensures.same) (c.in_ok-said.ensures.reads i savable (c.in_ok-head.ensures.reads i savable is) is) in
    absurd ((subst (λ (o : Option Index). IfNone o ((j : Index) → HasItsLevels j → SaysSame read j → ⊥)) c.in-None.is c.in_ok-made.ensures.some) i savable.has same)

pub returns-in_err-read-clause-only : goal.returns-in_err-read-clause-only
returns-in_err-read-clause-only c =
    let p = err_from_is_err_and c.from_residual-in_err-read.result c.from_residual-in_err-read.ensures.1 in
    rw (p.1, p.2)
    (λ i savable is. c.in_err-read.ensures.only (same_spelt c.in_ok-said.said i (c.in_ok-said.ensures.reads i savable (c.in_ok-head.ensures.reads i savable is) is) ∙ sym is))

pub returns-in_err-index-in-Some-clause-only : goal.returns-in_err-index-in-Some-clause-only
returns-in_err-index-in-Some-clause-only c =
    let read = c.in_ok-read.read in
    let p = err_from_is_err_and c.from_residual-in_err-index-in-Some.result c.from_residual-in_err-index-in-Some.ensures.1 in
    rw (p.1, p.2)
    (λ i savable is.
    let same = subst (λ (x : Index). SaysSame x i) (sym c.in_ok-read.ensures.same) (c.in_ok-said.ensures.reads i savable (c.in_ok-head.ensures.reads i savable is) is) in
    let made = (subst (λ (o : Option Index). IfSome o (λ x. (j : Index) → HasItsLevels j → SaysSame read j → SaysSame x j)) c.in-Some.is c.in_ok-made.ensures.reads) i savable.has same in
    c.in_err-index-in-Some.ensures.only (same_spelt c.in-Some.made i made ∙ sym is))
