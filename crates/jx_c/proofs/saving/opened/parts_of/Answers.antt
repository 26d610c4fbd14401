use Rattle.std.proofs.Common.{rules, ◌≡◌, List, length, subst, sym, ap, ◌∙◌}
use Rattle.std.proofs.lemmas.Result.{IfErr-at_err, IfOk-at_ok}
use Rattle.jx_file_query.specs.declared.cutting.Aim.{Aim}
use Rattle.jx_file_query.specs.declared.part.ContainerPart.{ContainerPart}
use Rattle.jx_file_query.specs.declared.split.PausedSplit.{PausedSplit}
use Rattle.jx_file_query.specs.Parts.{parts_of}
use Rattle.jx_c.specs.Buffers.{IsFilled}
use Rattle.jx_c.specs.Opened.{shown_part}
use Rattle.jx_c.proofs.saving.opened.parts_of.Goals as goal

pub returns-in-Ok-Ok-clause-parts : goal.returns-in-Ok-Ok-clause-parts
returns-in-Ok-Ok-clause-parts c = λ ok settings chunk text container p inside whole.
    let aim : c.resume.result.aim ≡ c.args.split.aim = ap (λ (s : PausedSplit). s.aim) c.resume.ensures.value in
    let come = c.resume.ensures.come settings chunk text p in
    let found = IfOk-at_ok _ c.in-Ok-Ok.field-0-is c.in-Ok-Ok.ensures.found settings chunk text container come inside (whole ∙ sym (ap (λ (a : Aim). a.whole) aim)) in
    let items : c.in-Ok-Ok.all.items ≡ parts_of c.args.split.aim.parts text container = found ∙ ap (λ (a : Aim). parts_of a.parts text container) aim in
    let count : c.len.result ≡ length c.in-Ok-Ok.all.items = search rules in
    (count ∙ ap length items, subst (λ (all : List ContainerPart). IsFilled shown_part c.args.parts.now c.fill.new.buffer all) (c.deref.ensures.value ∙ items) c.fill.ensures)

pub returns-in-Ok-Err-clause-damaged : goal.returns-in-Ok-Err-clause-damaged
returns-in-Ok-Err-clause-damaged c = λ is settings chunk text container p inside whole.
    let aim : c.resume.result.aim ≡ c.args.split.aim = ap (λ (s : PausedSplit). s.aim) c.resume.ensures.value in
    let come = c.resume.ensures.come settings chunk text p in
    IfErr-at_err _ c.in-Ok-Err.field-0-is c.in-Ok-Err.ensures.damaged settings chunk text container come inside (whole ∙ sym (ap (λ (a : Aim). a.whole) aim))
