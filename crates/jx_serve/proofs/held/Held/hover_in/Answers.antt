use Rattle.std.proofs.Common.{◌≡◌, ◌≤◌, ℕ, List, ap, subst, ◌∙◌}
use Rattle.jx_run.specs.declared.texts.settings.Settings.{Settings}
use Rattle.jx_serve.specs.Changes.{HeldValue}
use Rattle.jx_serve.specs.Values.{any_names, IsFoundAt}
use Rattle.jx_serve.specs.declared.under_cursor.ValueAt.{ValueAt}
use Rattle.jx_serve.proofs.ValuesAt.{due, no_hover}
use Rattle.jx_serve.proofs.held.Held.hover_in.Goals as goal

pub returns-in-None : goal.returns-in-None
returns-in-None c =
    let settings = c.args.self.now.settings in
    let read : Settings = c.settings-settings.result in
    let any : read ≡ any_names settings = c.settings-settings.ensures ∙ c.self.invariant.0 ∙ ap (λ (v : HeldValue). any_names v.settings) c.self.view_is in
    let done = c.args.completed.now in
    no_hover settings read c.args.self.now.bytes done.text.items done.kept c.args.offset c.in_ok-value_at.field-0 any c.requires.completed c.in-None.is
    (subst (λ (l : List ℕ). IsFoundAt read l c.args.offset c.in_ok-value_at.field-0) c.deref.ensures.value c.in_ok-value_at.ensures)

pub returns-then-kept-value : goal.returns-then-kept-value
returns-then-kept-value c =
    let settings = c.args.self.now.settings in
    let read : Settings = c.settings-settings.result in
    let any : read ≡ any_names settings = c.settings-settings.ensures ∙ c.self.invariant.0 ∙ ap (λ (v : HeldValue). any_names v.settings) c.self.view_is in
    let done = c.args.completed.now in
    due settings read c.args.self.now.bytes done.text.items done.kept c.args.offset c.in_ok-value_at.field-0 c.in-Some.value any c.requires.completed c.in-Some.is
    (subst (λ (l : List ℕ). IsFoundAt read l c.args.offset c.in_ok-value_at.field-0) c.deref.ensures.value c.in_ok-value_at.ensures)
    (subst (λ (n : ℕ). done.kept ≤ n) (ap (λ (v : ValueAt). v.row.span.start) c.value.view_is) c.if-kept-value.true)
