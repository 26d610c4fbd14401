use Rattle.std.proofs.Common.{◌≡◌, ◌<◌, ◌+◌, ◌∙◌, ◌++◌, ◌==◌, ℕ, suc, List, length, ap, refl, sym, subst, true, false, arith}
use Rattle.std.proofs.lemmas.Bool.Decides.{nat_tests}
use Rattle.jx_run.specs.declared.texts.settings.FrontMark.{FrontMark}
use Rattle.jx_run.specs.Elements.{part}
use Rattle.jx_ndjson.specs.Lines.{line, mark_length}
use Rattle.jx_line_values.specs.LineValues.{LineValuesOutput}
use Rattle.jx_line_values.specs.inside.Adding.{IsAdded, exit_past}
use Rattle.jx_line_values.specs.inside.Cutting.{CutterValue, HasTaken, line_bytes, line_mark}
use Rattle.jx_line_values.proofs.Cuts.{ends_so, ends_with}
use Rattle.jx_line_values.proofs.InFront.{whole_slice}
use Rattle.jx_line_values.proofs.Marks.{none_left}
use Rattle.jx_line_values.proofs.cutting.LineCutter.finish.Goals as goal

pub add_line-requires-clause-bare : goal.add_line-requires-clause-bare
add_line-requires-clause-bare c =
    let i = c.self.inside in
    let task = c.args.task.now in
    let n : ℕ = i.ended in
    let l : List ℕ = c.line_at-line.result.now in
    let held = whole_slice l (length l) refl ∙ c.line_at-line.ensures ∙ ap (λ (xs : List ℕ). line_bytes task.settings.mark n xs) c.deref.ensures.value in
    let mark = c.line_mark-mark.result in
    let marked : mark ≡ line_mark task.settings.mark n i.kept.items = c.line_mark-mark.ensures ∙ ap (λ (xs : List ℕ). line_mark task.settings.mark n xs) c.deref-2.ensures.value in
    ap (mark_length mark) held ∙ ap (λ (m : FrontMark). mark_length m (line_bytes task.settings.mark n i.kept.items)) marked ∙ none_left task.settings.mark n i.kept.items

pub returns : goal.returns
returns c = λ bytes given said h.
    let i = c.self.inside in
    let task = c.args.task.now in
    let n : ℕ = i.ended in
    let old : CutterValue = record { kept = i.kept.items; ended = n; ready = i.ready.items; told = i.told.items; exit = i.exit } in
    let next : n + 1 ≡ suc n = omega arith in
    let held : c.line_at-line.result.now ≡ line_bytes task.settings.mark n i.kept.items =
    c.line_at-line.ensures ∙ ap (λ (xs : List ℕ). line_bytes task.settings.mark n xs) c.deref.ensures.value in
    let long : ℕ = length c.line_at-line.result.now in
    let filled : (long == 0) ≡ false = sym c.is_empty.ensures ∙ c.if-is_empty.false in
    let some : 0 < long = grind (arith, nat_tests) in
    let mark = c.line_mark-mark.result in
    let marked : mark ≡ line_mark task.settings.mark n i.kept.items = c.line_mark-mark.ensures ∙ ap (λ (xs : List ℕ). line_mark task.settings.mark n xs) c.deref-2.ensures.value in
    ends_with task bytes given said c.add_line.new.ready.items c.add_line.new.told.items (n + 1) old c.exit_past-2.result
    (subst (λ (v : CutterValue). HasTaken task bytes given said v) (sym c.self.view_is) h) (subst (λ (xs : List ℕ). 0 < length xs) held some) next
    (subst (λ (m : FrontMark). IsAdded task m (line (n + 1) (part 0 (line_bytes task.settings.mark n i.kept.items)) false) i.ready.items c.add_line.new.ready.items i.told.items c.add_line.new.told.items) marked
    (subst (λ (xs : List ℕ). IsAdded task mark (line (n + 1) (part 0 xs) false) i.ready.items c.add_line.new.ready.items i.told.items c.add_line.new.told.items) (whole_slice c.line_at-line.result.now long refl ∙ held) c.in_ok-add_line.ensures))
    (c.exit_past-2.ensures ∙ ap (λ (t : List ℕ). exit_past i.exit t) c.deref-3.ensures.value)

pub returns-then-is_empty : goal.returns-then-is_empty
returns-then-is_empty c = λ bytes given said h.
    let i = c.self.inside in
    let task = c.args.task.now in
    let old : CutterValue = record { kept = i.kept.items; ended = i.ended; ready = i.ready.items; told = i.told.items; exit = i.exit } in
    let held : c.line_at-line.result.now ≡ line_bytes task.settings.mark i.ended i.kept.items =
    c.line_at-line.ensures ∙ ap (λ (xs : List ℕ). line_bytes task.settings.mark i.ended xs) c.deref.ensures.value in
    let long : ℕ = length c.line_at-line.result.now in
    let empty : (long == 0) ≡ true = sym c.is_empty.ensures ∙ c.if-is_empty.true in
    let none : long ≡ 0 = grind (arith, nat_tests) in
    subst (λ (v : CutterValue). LineValuesOutput task bytes (given ++ v.ready) (said ++ v.told) c.exit_past.result) c.self.view_is
    (ends_so task bytes given said old c.exit_past.result (subst (λ (v : CutterValue). HasTaken task bytes given said v) (sym c.self.view_is) h) (ap length (sym held) ∙ none)
    (c.exit_past.ensures ∙ ap (λ (t : List ℕ). exit_past i.exit t) c.deref-then-is_empty.ensures.value))
