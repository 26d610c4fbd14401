use Rattle.std.proofs.Common.{◌++◌, List, ℕ, ap, append_assoc, codes, decimal, ◌∙◌}
use Rattle.jx_values.proofs.sought.add_no_object.Goals as goal

pub returns : goal.returns
returns c =
    c.in_ok-add_number.ensures
    ∙ ap (λ (xs : List ℕ). xs ++ decimal c.args.tokens) c.in_ok-extend_from_slice.ensures.items
    ∙ append_assoc c.args.told.now.items (codes "not an object at token ") (decimal c.args.tokens)
