use Rattle.std.proofs.Common.{◌≡◌, ◌∙◌, ℕ, List, length, subst, sym}
use Rattle.jx_run.specs.Settings.{JudgedBy}
use Rattle.jx_complete.specs.Completed.{IsCompleted}
use Rattle.jx_serve.proofs.Outlines.{whole_text}
use Rattle.jx_serve.proofs.held.completed_by.Goals as goal

pub returns-in-Accepted-clause-some : goal.returns-in-Accepted-clause-some
returns-in-Accepted-clause-some c =
    let settings = c.args.settings.now in
    let bytes : List ℕ = c.args.bytes.items in
    let kept : c.len-kept.result ≡ length bytes = c.len-kept.ensures ∙ c.args.bytes.ok.0 in
    subst (IsCompleted settings bytes bytes) (sym kept) (whole_text settings bytes (subst (JudgedBy settings 0 bytes) c.in-Accepted.is c.requires))
