use Rattle.std.proofs.Common.{◌≡◌, Some, slice_range, subst, sym, ◌∙◌}
use Rattle.std.proofs.lemmas.Result.{IfErr-at_err, IfOk-at_ok}
use Rattle.jx_summary.specs.declared.span.Span.{Span}
use Rattle.jx_file_index.specs.declared.index.Index.{Index}
use Rattle.jx_file_query.specs.PausedWalks.{HasPaused}
use Rattle.jx_c.proofs.Opening.{walk_led}
use Rattle.jx_c.proofs.saving.opened.give_to_walk.Goals as goal

pub returns-in-Ok-Ok-clause-led : goal.returns-in-Ok-Ok-clause-led
returns-in-Ok-Ok-clause-led c = λ ok. walk_led c.args.saved.now c.args.bytes.now c.args.pointers c.args.walk c.pause.result (λ settings chunk text read p told.
    let come = c.in-Ok.ensures.come settings chunk text read p in
    let on = IfOk-at_ok _ c.in-Ok-Ok.field-0-is c.in-Ok-Ok.ensures.come settings chunk text read come (λ span e. told span (sym c.in-Ok.ensures.needed ∙ e)) in
    record { names = p.names; come = subst (λ (i : Index). HasPaused settings chunk text read i c.pause.result) (c.give.ensures.index ∙ c.in-Ok.ensures.index) (c.pause.ensures.come settings chunk text read on) })

pub returns-in-Ok-Err-Changed-clause-changed : goal.returns-in-Ok-Err-Changed-clause-changed
returns-in-Ok-Err-Changed-clause-changed c = λ is settings chunk text span p e.
    let at : Span = c.in-Ok-Err-Changed.field-0-0-0 in
    let told = IfErr-at_err _ c.in-Ok-Err-Changed.field-0-is c.in-Ok-Err-Changed.ensures.changed at c.in-Ok-Err-Changed.field-0-0-is in
    let both : Some at ≡ Some span = sym told.1 ∙ c.in-Ok.ensures.needed ∙ e in
    let same : at ≡ span = cc in
    subst (λ (s : Span). c.args.bytes.now ≡ slice_range text s.start s.end → ⊥) same (told.2 settings chunk text p.0 (c.in-Ok.ensures.come settings chunk text p.0 p.1))

pub returns-in-Ok-Err-Damaged-clause-damaged : goal.returns-in-Ok-Err-Damaged-clause-damaged
returns-in-Ok-Err-Damaged-clause-damaged c = λ is settings chunk text p told.
    let none = IfErr-at_err _ c.in-Ok-Err-Damaged.field-0-is c.in-Ok-Err-Damaged.ensures.damaged c.in-Ok-Err-Damaged.field-0-0-is in
    none.1 settings chunk text p.0 (c.in-Ok.ensures.come settings chunk text p.0 p.1) (λ span e. told span (sym c.in-Ok.ensures.needed ∙ e))
