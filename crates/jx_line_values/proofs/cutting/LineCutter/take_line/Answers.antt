use Rattle.std.proofs.Common.{◌≡◌, ◌<◌, ◌+◌, ◌∙◌, ◌++◌, ℕ, suc, List, [], take, length, ap, refl, sym, subst, true, arith}
use Rattle.std.specs.Prelude.{slice_range}
use Rattle.jx_run.specs.declared.texts.settings.FrontMark.{FrontMark}
use Rattle.jx_run.specs.declared.texts.settings.FrontMark.TheVariants.{Refused}
use Rattle.jx_run.specs.Elements.{part}
use Rattle.jx_ndjson.specs.Lines.{line}
use Rattle.jx_line_values.specs.inside.Adding.{IsAdded}
use Rattle.jx_line_values.specs.inside.Cutting.{CutterValue, HasTaken, line_bytes}
use Rattle.jx_line_values.proofs.Cuts.{ends_line, takes_more}
use Rattle.jx_line_values.proofs.InFront.{front_slice, later_bytes, no_bytes}
use Rattle.jx_line_values.proofs.Marks.{later_mark}
use Rattle.jx_line_values.proofs.cutting.LineCutter.take_line.Goals as goal

pub returns : goal.returns
returns c = λ bytes given said h.
    let i = c.self.inside in
    let task = c.args.task.now in
    let n : ℕ = i.ended in
    let front : List ℕ = take c.args.len c.args.slice.now in
    let old : CutterValue = record { kept = i.kept.items; ended = n; ready = i.ready.items; told = i.told.items; exit = i.exit } in
    let longer : CutterValue = record old { kept = i.kept.items ++ front } in
    let was = subst (λ (v : CutterValue). HasTaken task bytes given said v) (sym c.self.view_is) h in
    let none : i.kept.items ≡ [] = no_bytes i.kept.items (ap (λ (v : CutterValue). length v.kept) c.self.view_is ∙ c.requires.none_kept) in
    let behind : 0 < n = subst (λ (v : CutterValue). 0 < v.ended) (sym c.self.view_is) c.requires.behind in
    let taken : HasTaken task (bytes ++ front) given said longer = takes_more task bytes front given said old longer was c.requires.line refl refl refl refl refl in
    let next : n + 1 ≡ suc n = omega arith in
    let held : slice_range c.args.slice.now 0 c.args.len ≡ line_bytes task.settings.mark n longer.kept =
    front_slice c.args.slice.now c.args.len ∙ ap (λ (xs : List ℕ). xs ++ front) (sym none) ∙ sym (later_bytes task.settings.mark n longer.kept behind) in
    ends_line task (bytes ++ front) given said (n + 1) longer _ taken next
    (subst (λ (m : FrontMark). IsAdded task m (line (n + 1) (part 0 (line_bytes task.settings.mark n longer.kept)) true) i.ready.items c.add_line.new.ready.items i.told.items c.add_line.new.told.items)
    (sym (later_mark task.settings.mark n longer.kept behind))
    (subst (λ (xs : List ℕ). IsAdded task Refused (line (n + 1) (part 0 xs) true) i.ready.items c.add_line.new.ready.items i.told.items c.add_line.new.told.items) held c.in_ok-add_line.ensures))
    none refl refl
