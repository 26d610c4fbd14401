use Rattle.std.proofs.Common.{ap, refl, take, ◌∙◌, ◌++◌, List, ℕ}
use Rattle.jx_edit.proofs.Fronts.{front_few}
use Rattle.jx_edit.proofs.chunking.replacement.Replacement.front.Goals as goal

pub returns : goal.returns
returns c =
    let few : List ℕ = take c.min.result c.args.self.bytes.now in
    c.front.ensures.value
    ∙ front_few c.args.mark c.args.self.before.now c.args.self.bytes.now few c.args.self.behind.now c.deref.result.now c.min.result c.min.ensures refl
    (c.deref.ensures.value ∙ c.in_ok-extend_from_slice-2.ensures.items
    ∙ ap (λ (t : List ℕ). t ++ c.args.self.behind.now) (c.in_ok-extend_from_slice.ensures.items ∙ ap (λ (t : List ℕ). t ++ few) c.in_ok-bytes.ensures.items))
