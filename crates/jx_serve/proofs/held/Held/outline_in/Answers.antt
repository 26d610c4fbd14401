use Rattle.std.proofs.Common.{◌≡◌, ℕ, List, ap, subst, sym, take, ◌∙◌, rules}
use Rattle.jx_index.specs.ByNames.{IsVerdictBy}
use Rattle.jx_run.specs.declared.texts.settings.Settings.{Settings}
use Rattle.jx_run.specs.declared.texts.verdict.Verdict.TheVariants.{Refused}
use Rattle.jx_serve.specs.Changes.{HeldValue}
use Rattle.jx_serve.specs.Values.{any_names}
use Rattle.jx_serve.proofs.Outlines.{not_refused}
use Rattle.jx_serve.proofs.held.Held.outline_in.Goals as goal

pub unreachable-requires : goal.unreachable-requires
unreachable-requires c =
    let settings = c.args.self.now.settings in
    let text : List ℕ = c.args.completed.text.items in
    let read : Settings = c.settings-settings.result in
    let any : read ≡ any_names settings = c.settings-settings.ensures ∙ c.self.invariant.0 ∙ ap (λ (v : HeldValue). any_names v.settings) c.self.view_is in
    let refused : IsVerdictBy read c.deref.result.now (Refused c.in-Err.field-0) = search rules in
    not_refused settings text c.requires.completed.tree c.in-Err.field-0 c.requires.completed.is_text
    (subst (λ (s : Settings). IsVerdictBy s text (Refused c.in-Err.field-0)) any (subst (λ (l : List ℕ). IsVerdictBy read l (Refused c.in-Err.field-0)) c.deref.ensures.value refused))

pub symbols_of-requires : goal.symbols_of-requires
symbols_of-requires c =
    let kept : ℕ = c.args.completed.kept in
    record {
      begins = ap (take kept) c.deref-in-Ok.ensures.value ∙ c.requires.completed.begins ∙ ap (λ (v : HeldValue). take kept v.bytes) (sym c.self.view_is);
    }
