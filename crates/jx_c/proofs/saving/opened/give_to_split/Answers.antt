use Rattle.std.proofs.Common.{◌≡◌, Some, slice_range, subst, sym, ap, ◌∙◌}
use Rattle.std.proofs.lemmas.Result.{IfErr-at_err, IfOk-at_ok}
use Rattle.jx_summary.specs.declared.span.Span.{Span}
use Rattle.jx_file_index.specs.declared.index.Index.{Index}
use Rattle.jx_file_query.specs.declared.split.PausedSplit.{PausedSplit}
use Rattle.jx_file_query.specs.PausedSplits.{HasPaused}
use Rattle.jx_c.proofs.Opening.{split_led}
use Rattle.jx_c.proofs.saving.opened.give_to_split.Goals as goal

pub returns-in-Ok-Ok-clause-led : goal.returns-in-Ok-Ok-clause-led
returns-in-Ok-Ok-clause-led c = λ ok.
    let kept : c.pause.result.aim ≡ c.args.split.aim = ap (λ (p : PausedSplit). p.aim) c.pause.ensures.value ∙ c.give.ensures.aim ∙ ap (λ (p : PausedSplit). p.aim) c.resume-whole.ensures.value in
    split_led c.args.saved.now c.args.bytes.now c.args.split c.pause.result (λ aim e. kept ∙ e) (λ settings chunk text p told.
    let come = c.resume-whole.ensures.come settings chunk text p in
    let on = IfOk-at_ok _ c.in-Ok-Ok.field-0-is c.in-Ok-Ok.ensures.come settings chunk text come (λ span e. told span (sym c.resume-whole.ensures.needed ∙ e)) in
    subst (λ (i : Index). HasPaused settings chunk text i c.pause.result) (c.give.ensures.index ∙ c.resume-whole.ensures.index) (c.pause.ensures.come settings chunk text on))

pub returns-in-Ok-Err-Changed-clause-changed : goal.returns-in-Ok-Err-Changed-clause-changed
returns-in-Ok-Err-Changed-clause-changed c = λ is settings chunk text span p e.
    let at : Span = c.in-Ok-Err-Changed.field-0-0-0 in
    let told = IfErr-at_err _ c.in-Ok-Err-Changed.field-0-is c.in-Ok-Err-Changed.ensures.changed at c.in-Ok-Err-Changed.field-0-0-is in
    let both : Some at ≡ Some span = sym told.1 ∙ c.resume-whole.ensures.needed ∙ e in
    let same : at ≡ span = cc in
    subst (λ (s : Span). c.args.bytes.now ≡ slice_range text s.start s.end → ⊥) same (told.2 settings chunk text (c.resume-whole.ensures.come settings chunk text p))

pub returns-in-Ok-Err-Damaged-clause-damaged : goal.returns-in-Ok-Err-Damaged-clause-damaged
returns-in-Ok-Err-Damaged-clause-damaged c = λ is settings chunk text p told.
    let none = IfErr-at_err _ c.in-Ok-Err-Damaged.field-0-is c.in-Ok-Err-Damaged.ensures.damaged c.in-Ok-Err-Damaged.field-0-0-is in
    none.1 settings chunk text (c.resume-whole.ensures.come settings chunk text p) (λ span e. told span (sym c.resume-whole.ensures.needed ∙ e))
