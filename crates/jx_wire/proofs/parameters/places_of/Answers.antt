use Rattle.std.proofs.Common.{◌++◌, List, ℕ, append_assoc, codes, refl, subst}
use Rattle.jx_wire.specs.inside.Nodes.{IsAt}
use Rattle.jx_wire.proofs.parameters.places_of.Goals as goal

pub returns-in_err-start-clause-none : goal.returns-in_err-start-clause-none
returns-in_err-start-clause-none c = λ pointer at none tree is start end h.
    let there = subst (λ (l : List ℕ). IsAt c.args.message.now l c.member.result) (append_assoc pointer (codes "/range") (codes "/start")) (c.member.ensures refl (pointer ++ codes "/range") at) in
    c.in_err-start.ensures.none (pointer ++ codes "/range/start") there refl tree is start h.from

pub returns-in_err-end-clause-none : goal.returns-in_err-end-clause-none
returns-in_err-end-clause-none c = λ pointer at none tree is start end h.
    let there = subst (λ (l : List ℕ). IsAt c.args.message.now l c.member-2.result) (append_assoc pointer (codes "/range") (codes "/end")) (c.member-2.ensures refl (pointer ++ codes "/range") at) in
    c.in_err-end.ensures.none (pointer ++ codes "/range/end") there refl tree is end h.to

pub returns-clause-some : goal.returns-clause-some
returns-clause-some c = λ pointer at tree is.
    let start = subst (λ (l : List ℕ). IsAt c.args.message.now l c.member.result) (append_assoc pointer (codes "/range") (codes "/start")) (c.member.ensures refl (pointer ++ codes "/range") at) in
    let end = subst (λ (l : List ℕ). IsAt c.args.message.now l c.member-2.result) (append_assoc pointer (codes "/range") (codes "/end")) (c.member-2.ensures refl (pointer ++ codes "/range") at) in
    record { from = c.in_ok-start.ensures.some (pointer ++ codes "/range/start") start tree is; to = c.in_ok-end.ensures.some (pointer ++ codes "/range/end") end tree is }
