use Rattle.std.proofs.Common.{◌≡◌, ◌<◌, ◌≤◌, ℕ, List, length, true, false, rules, sym, ◌∙◌}
use Rattle.jx_run.specs.declared.sequences.element_verdict.JudgedElement.{JudgedElement}
use Rattle.jx_run.specs.Elements.{Part, part_span}
use Rattle.jx_run.specs.ElementVerdict.{IsJudgedElement}
use Rattle.jx_run.proofs.MarksAlone.{none_at_all, within_input, mark_stays, mark_goes}
use Rattle.jx_run.proofs.sequences.mark_alone.without_mark.Goals as goal

-- a judged element has its part's span
in_place : (limit : ℕ) (p : Part) (j : JudgedElement) → IsJudgedElement limit p j → j.span ≡ part_span p
in_place limit p j h = h.span_is

pub returns-then-is_empty : goal.returns-then-is_empty
returns-then-is_empty c =
    let js : List JudgedElement = c.args.elements.items in
    let none : length js ≡ 0 = search rules in
    λ input limit seen h. none_at_all (λ (j : JudgedElement). j.span) (IsJudgedElement limit) (in_place limit) input js h none

pub returns-then-not-is_mark_alone : goal.returns-then-not-is_mark_alone
returns-then-not-is_mark_alone c =
    let js : List JudgedElement = c.args.elements.items in
    let low : 0 < length js = search rules in
    let flag : c.is_mark_alone.result ≡ false = search rules in
    λ input limit seen h.
    let x : JudgedElement = c.index.result.now in
    let within : x.span.end ≤ length input = within_input (λ (j : JudgedElement). j.span) (IsJudgedElement limit) (in_place limit) input js h x low c.index.ensures in
    mark_stays (λ (j : JudgedElement). j.span) (IsJudgedElement limit) (in_place limit) input js h x low c.index.ensures (sym (c.is_mark_alone.ensures.alone input seen within) ∙ flag)

pub returns : goal.returns
returns c =
    let js : List JudgedElement = c.args.elements.items in
    let low : 0 < length js = search rules in
    let flag : c.is_mark_alone.result ≡ true = search rules in
    λ input limit seen h.
    let x : JudgedElement = c.index.result.now in
    let within : x.span.end ≤ length input = within_input (λ (j : JudgedElement). j.span) (IsJudgedElement limit) (in_place limit) input js h x low c.index.ensures in
    mark_goes (λ (j : JudgedElement). j.span) (IsJudgedElement limit) (in_place limit) input js h x low c.index.ensures (sym (c.is_mark_alone.ensures.alone input seen within) ∙ flag)
    c.remove.new.self.items c.remove.ensures.by_index.2
