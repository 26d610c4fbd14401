use Rattle.std.proofs.Common.{List, ℕ, ◌++◌, ap, ◌∙◌}
use Rattle.jx_index.proofs.WideObjects.{fronts_behind}
use Rattle.jx_index.proofs.child_lists.add_child_list.Goals as goal

pub returns-in_ok-extend_from_slice-in-Object-clause-fronts : goal.returns-in_ok-extend_from_slice-in-Object-clause-fronts
returns-in_ok-extend_from_slice-in-Object-clause-fronts c =
    let before = c.args.children.now.items in
    let added = c.in_ok-extend_from_slice-in-Object.ensures.items ∙ ap (λ (xs : List ℕ). before ++ xs) c.deref.ensures.value in
    fronts_behind c.args.text.now c.args.rows.now before _ _ _ added c.in_ok-fronts-in-Object.ensures.fronts
