use Rattle.std.proofs.Common.{sym, ap, subst, ◌∙◌, ◌≤◌, length}
use Rattle.std.proofs.lemmas.Result.{IfOk-weaker}
use Rattle.jx_reduce.specs.Read.{went, read}
use Rattle.jx_reduce.proofs.Structures.{if_both}
use Rattle.jx_reduce.proofs.reducing.reducer.Reducer.finish.Goals as goal

pub returns-clause-reads : goal.returns-clause-reads
returns-clause-reads c marks h rising =
    if_both c.of_structure.result
    (λ f depth answers e s short.
    answers e s short
    ∙ c.in_ok-structure.ensures.reads marks h rising e s (subst (λ d. length s ≤ d) depth short)
    ∙ ap (λ d. read d marks (went e s)) (sym depth))
    c.of_structure.ensures.depth c.of_structure.ensures.answers

pub returns-clause-offsets : goal.returns-clause-offsets
returns-clause-offsets c marks h rising =
    IfOk-weaker c.of_structure.result _ _ (λ f offsets low high a. offsets low high (c.in_ok-structure.ensures.offsets marks h rising low high a)) c.of_structure.ensures.offsets
