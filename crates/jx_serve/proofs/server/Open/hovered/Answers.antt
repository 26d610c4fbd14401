use Rattle.std.proofs.Common.{◌∙◌, ap, inr, refl, subst, sym}
use Rattle.jx_serve.specs.Served.{IsHoverIn, OpenValue}
use Rattle.jx_serve.specs.declared.reply.Reply.{Reply}
use Rattle.jx_serve.proofs.ValuesAt.{none_shown, some_shown}
use Rattle.jx_serve.proofs.server.Open.hovered.Goals.{in-Ok-Some, in-Ok-None, in-Err}
use Rattle.jx_serve.proofs.server.Open.hovered.Goals as goal

pub returns-after-hover-clause-shows : goal.returns-after-hover-clause-shows
returns-after-hover-clause-shows c =
    let e = c.args.encoding in
    let place = c.args.place in
    let open_now = c.args.self.now in
    let held = ap (λ (o : OpenValue). o.held) c.self.view_is in
    let Shows : Reply → Type 0 = λ r. IsHoverIn e place r open_now in
    elim c.match-hover.branch [
      | in-Ok-Some w ↦ (
          let content = sym (ap (λ (o : OpenValue). o.content) c.self.view_is) ∙ c.in-Text.is in
          let shown = some_shown e place c.self.inside.held open_now.held w.in-Ok-Some.field-0 w.in-Ok-Some.hover held w.in-Ok-Some.field-0-is w.in-Ok-Some.ensures.lost w.in-Ok-Some.ensures.value in
          subst Shows (sym w.result-is) (content, shown.0, shown.1))
      | in-Ok-None w ↦ subst Shows (sym w.result-is) (inr (none_shown e place c.self.inside.held open_now.held w.in-Ok-None.field-0 held w.in-Ok-None.field-0-is w.in-Ok-None.ensures.value))
      | in-Err w ↦ subst Shows (sym (w.result-is ∙ w.refused.ensures)) refl
    ]
