use Rattle.std.proofs.Common.{ap, ◌∙◌, ℕ, take}
use Rattle.std.proofs.lemmas.List.{take_min}
use Rattle.jx_serve.proofs.line_mark.first_of.Goals as goal

pub returns : goal.returns
returns c = ap (λ (n : ℕ). take n c.args.lines.now) c.min.ensures ∙ take_min 1000 c.args.lines.now
