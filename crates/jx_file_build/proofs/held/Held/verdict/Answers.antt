use Rattle.std.proofs.Common.{ℕ, subst, sym}
use Rattle.jx_run.specs.Settings.{JudgedBy}
use Rattle.jx_run.specs.declared.texts.settings.Settings.{Settings}
use Rattle.jx_file_build.specs.Held.{IsEntered, held_of}
use Rattle.jx_file_build.proofs.held.Held.verdict.Goals as goal

pub returns : goal.returns
returns c = λ has_names settings size bytes h.
    let a = c.self.inside in
    let k : IsEntered has_names settings size bytes (held_of a) = subst (IsEntered has_names settings size bytes) (sym c.self.view_is) h in
    let r = k.read in
    subst (λ (s : Settings). JudgedBy s 0 bytes c.verdict.result) r.by (subst (λ (n : ℕ). JudgedBy a.reader.settings n bytes c.verdict.result) r.start (c.verdict.ensures.verdict bytes r.read))
