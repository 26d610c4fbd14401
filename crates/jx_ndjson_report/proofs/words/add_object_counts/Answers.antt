use Rattle.std.proofs.Common.{◌++◌, ◌∷◌, [], List, ℕ, ap, ◌∙◌}
use Rattle.jx_ndjson_report.specs.Output.{member}
use Rattle.jx_ndjson_report.proofs.Seams.{appended, four}
use Rattle.jx_ndjson_report.proofs.words.add_object_counts.Goals as goal

pub returns : goal.returns
returns c =
    let front = c.in_ok-extend_from_slice.ensures.items in
    let good = c.in_ok-add_member.ensures ∙ ap (λ (l : List ℕ). l ++ member _ c.args.good) front in
    let bad = c.in_ok-add_member-2.ensures ∙ ap (λ (l : List ℕ). l ++ member _ c.args.bad) good in
    appended c.extend_from_slice-2.result _ _ _ _ c.extend_from_slice-2.ensures.items
    (ap (λ (l : List ℕ). l ++ (125 ∷ 10 ∷ [])) bad ∙ four c.args.out.now.items c.args.front.now _ _ _)
