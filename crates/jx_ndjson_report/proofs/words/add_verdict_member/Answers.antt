use Rattle.std.proofs.Common.{◌++◌, ◌∷◌, [], List, ℕ, ap, ◌∙◌}
use Rattle.jx_ndjson_report.specs.Output.{verdict_member}
use Rattle.jx_ndjson_report.proofs.Seams.{appended, three}
use Rattle.jx_ndjson_report.proofs.words.add_verdict_member.Goals as goal

pub returns : goal.returns
unfolding verdict_member
returns c =
    let name = c.in_ok-extend_from_slice.ensures.items in
    let word = c.in_ok-extend_from_slice-2.ensures.items ∙ ap (λ (l : List ℕ). l ++ c.verdict_name.result.now) name ∙ ap (λ (l : List ℕ). (c.args.out.now.items ++ _) ++ l) c.verdict_name.ensures in
    appended c.extend_from_slice-3.result _ _ _ _ c.extend_from_slice-3.ensures.items (ap (λ (l : List ℕ). l ++ (34 ∷ [])) word ∙ three c.args.out.now.items _ _ _)
