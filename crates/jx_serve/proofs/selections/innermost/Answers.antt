use Rattle.std.proofs.Common.{◌-◌, ◌∙◌, ℕ, ap, arith, drop, length}
use Rattle.std.proofs.lemmas.List.{length-drop, take_all}
use Rattle.jx_serve.proofs.selections.innermost.Goals as goal

pub returns : goal.returns
returns c =
    let chain = c.args.chain.now in
    let start = c.saturating_sub.result in
    take_all (length chain - start) (drop start chain) (omega (arith, length-drop start chain)) ∙ ap (λ (n : ℕ). drop n chain) c.saturating_sub.ensures
