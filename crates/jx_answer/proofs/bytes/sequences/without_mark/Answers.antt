use Rattle.std.proofs.Common.{◌≡◌, ◌<◌, ◌≤◌, ℕ, List, length, true, false, rules, sym, ◌∙◌}
use Rattle.jx_run.specs.Elements.{Part, part_span}
use Rattle.jx_run.proofs.MarksAlone.{none_at_all, within_input, mark_stays, mark_goes}
use Rattle.jx_answer.specs.declared.element.Element.{Element}
use Rattle.jx_answer.specs.Sequence.{IsElement}
use Rattle.jx_answer.proofs.bytes.sequences.without_mark.Goals as goal

-- an answer has its element's span
in_place : (text : List ℕ) (limit : ℕ) (p : Part) (e : Element) → IsElement text limit p e → e.span ≡ part_span p
in_place text limit p e a = a.span_is

pub returns-then-is_empty : goal.returns-then-is_empty
returns-then-is_empty c =
    let xs : List Element = c.args.elements.items in
    let none : length xs ≡ 0 = search rules in
    λ text limit seen z. none_at_all (λ (e : Element). e.span) (IsElement text limit) (in_place text limit) text xs z none

pub returns-then-not-is_mark_alone : goal.returns-then-not-is_mark_alone
returns-then-not-is_mark_alone c =
    let xs : List Element = c.args.elements.items in
    let x : Element = c.index.result.now in
    let low : 0 < length xs = search rules in
    let flag : c.is_mark_alone.result ≡ false = search rules in
    λ text limit seen z.
    let within : x.span.end ≤ length text = within_input (λ (e : Element). e.span) (IsElement text limit) (in_place text limit) text xs z x low c.index.ensures in
    mark_stays (λ (e : Element). e.span) (IsElement text limit) (in_place text limit) text xs z x low c.index.ensures (sym (c.is_mark_alone.ensures.alone text seen within) ∙ flag)

pub returns : goal.returns
returns c =
    let xs : List Element = c.args.elements.items in
    let x : Element = c.index.result.now in
    let low : 0 < length xs = search rules in
    let flag : c.is_mark_alone.result ≡ true = search rules in
    λ text limit seen z.
    let within : x.span.end ≤ length text = within_input (λ (e : Element). e.span) (IsElement text limit) (in_place text limit) text xs z x low c.index.ensures in
    mark_goes (λ (e : Element). e.span) (IsElement text limit) (in_place text limit) text xs z x low c.index.ensures (sym (c.is_mark_alone.ensures.alone text seen within) ∙ flag)
    c.remove.new.self.items c.remove.ensures.by_index.2
