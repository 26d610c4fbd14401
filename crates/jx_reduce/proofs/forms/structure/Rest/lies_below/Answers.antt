use Rattle.jx_reduce.specs.Reduced.{form_in}
use Rattle.jx_reduce.proofs.OfParts.{below_in}
use Rattle.jx_reduce.proofs.forms.structure.Rest.lies_below.Goals as goal

pub returns-then-self-end : goal.returns-then-self-end
returns-then-self-end c =
    let is = c.lies_in.ensures in
    let words = below_in c.args.end (form_in c.args.self.now.tail) in
    (λ yes. (c.if-self-end.true, words.0 (is.0 yes)), λ h. is.1 (words.1 h.1))
