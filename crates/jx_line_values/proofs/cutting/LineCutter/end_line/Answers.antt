use Rattle.std.proofs.Common.{◌≡◌, ◌+◌, ◌∙◌, ℕ, suc, List, length, ap, refl, sym, subst, true, arith}
use Rattle.jx_run.specs.declared.texts.settings.FrontMark.{FrontMark}
use Rattle.jx_run.specs.Elements.{part}
use Rattle.jx_ndjson.specs.Lines.{line, mark_length}
use Rattle.jx_line_values.specs.inside.Adding.{IsAdded}
use Rattle.jx_line_values.specs.inside.Cutting.{CutterValue, HasTaken, line_bytes, line_mark}
use Rattle.jx_line_values.proofs.Cuts.{ends_line}
use Rattle.jx_line_values.proofs.InFront.{whole_slice}
use Rattle.jx_line_values.proofs.Marks.{none_left}
use Rattle.jx_line_values.proofs.cutting.LineCutter.end_line.Goals as goal

pub add_line-requires-clause-bare : goal.add_line-requires-clause-bare
add_line-requires-clause-bare c =
    let i = c.self.inside in
    let task = c.args.task.now in
    let n : ℕ = i.ended in
    let l : List ℕ = c.line_at-line.result.now in
    let held = whole_slice l (length l) refl ∙ c.line_at-line.ensures ∙ ap (λ (xs : List ℕ). line_bytes task.settings.mark n xs) c.deref.ensures.value in
    let mark = c.line_mark-mark.result in
    let marked : mark ≡ line_mark task.settings.mark n i.kept.items = c.line_mark-mark.ensures ∙ ap (λ (xs : List ℕ). line_mark task.settings.mark n xs) c.deref-2.ensures.value in
    ap (mark_length mark) held ∙ ap (λ (m : FrontMark). mark_length m (line_bytes task.settings.mark n i.kept.items)) marked ∙ none_left task.settings.mark n i.kept.items

pub returns : goal.returns
returns c = λ bytes given said h.
    let i = c.self.inside in
    let task = c.args.task.now in
    let n : ℕ = i.ended in
    let old : CutterValue = record { kept = i.kept.items; ended = n; ready = i.ready.items; told = i.told.items; exit = i.exit } in
    let next : n + 1 ≡ suc n = omega arith in
    let l : List ℕ = c.line_at-line.result.now in
    let held = whole_slice l (length l) refl ∙ c.line_at-line.ensures ∙ ap (λ (xs : List ℕ). line_bytes task.settings.mark n xs) c.deref.ensures.value in
    let mark = c.line_mark-mark.result in
    let marked : mark ≡ line_mark task.settings.mark n i.kept.items = c.line_mark-mark.ensures ∙ ap (λ (xs : List ℕ). line_mark task.settings.mark n xs) c.deref-2.ensures.value in
    ends_line task bytes given said (n + 1) old _ (subst (λ (v : CutterValue). HasTaken task bytes given said v) (sym c.self.view_is) h) next
    (subst (λ (m : FrontMark). IsAdded task m (line (n + 1) (part 0 (line_bytes task.settings.mark n i.kept.items)) true) i.ready.items c.add_line.new.ready.items i.told.items c.add_line.new.told.items) marked
    (subst (λ (xs : List ℕ). IsAdded task mark (line (n + 1) (part 0 xs) true) i.ready.items c.add_line.new.ready.items i.told.items c.add_line.new.told.items) held c.in_ok-add_line.ensures))
    c.clear.ensures.items refl refl
