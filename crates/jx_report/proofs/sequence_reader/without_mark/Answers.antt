use Rattle.std.proofs.Common.{◌≡◌, ◌<◌, ◌≤◌, ℕ, List, length, true, false, rules, sym, subst, ◌∙◌}
use Rattle.std.specs.List.{AllZip}
use Rattle.jx_run.specs.declared.sequences.element_verdict.JudgedElement.{JudgedElement}
use Rattle.jx_run.specs.declared.texts.settings.FrontMark.{FrontMark}
use Rattle.jx_run.specs.declared.texts.settings.FrontMark.TheVariants.{Ignored}
use Rattle.jx_run.specs.declared.texts.settings.Settings.{Settings}
use Rattle.jx_run.specs.MarkAlone.{elements_by}
use Rattle.jx_run.proofs.MarksAlone.{none_at_all, within_input, mark_stays, mark_goes}
use Rattle.jx_index.specs.ByNames.{AreJudgedBy, IsJudgedBy}
use Rattle.jx_report.proofs.SequenceSteps.{stands_in_place}
use Rattle.jx_report.proofs.sequence_reader.without_mark.Goals as goal

-- those of the elements behind the mark are those by settings
by_mark : (settings : Settings) (text : List ℕ) (es : List JudgedElement) → settings.mark ≡ Ignored → AllZip (IsJudgedBy settings text) (elements_by Ignored text) es → AreJudgedBy settings text es
by_mark settings text es is z = subst (λ (m : FrontMark). AllZip (IsJudgedBy settings text) (elements_by m text) es) (sym is) z

pub returns-then-is_empty : goal.returns-then-is_empty
returns-then-is_empty c =
    let xs : List JudgedElement = c.args.judged.items in
    let none : length xs ≡ 0 = search rules in
    λ settings text is seen z. by_mark settings text xs is (none_at_all (λ (e : JudgedElement). e.span) (IsJudgedBy settings text) (stands_in_place settings text) text xs z none)

pub returns-then-not-is_mark_alone : goal.returns-then-not-is_mark_alone
returns-then-not-is_mark_alone c =
    let xs : List JudgedElement = c.args.judged.items in
    let x : JudgedElement = c.index.result.now in
    let low : 0 < length xs = search rules in
    let flag : c.is_mark_alone.result ≡ false = search rules in
    λ settings text is seen z.
    let within : x.span.end ≤ length text = within_input (λ (e : JudgedElement). e.span) (IsJudgedBy settings text) (stands_in_place settings text) text xs z x low c.index.ensures in
    by_mark settings text xs is
    (mark_stays (λ (e : JudgedElement). e.span) (IsJudgedBy settings text) (stands_in_place settings text) text xs z x low c.index.ensures (sym (c.is_mark_alone.ensures.alone text seen within) ∙ flag))

pub returns : goal.returns
returns c =
    let xs : List JudgedElement = c.args.judged.items in
    let x : JudgedElement = c.index.result.now in
    let low : 0 < length xs = search rules in
    let flag : c.is_mark_alone.result ≡ true = search rules in
    λ settings text is seen z.
    let within : x.span.end ≤ length text = within_input (λ (e : JudgedElement). e.span) (IsJudgedBy settings text) (stands_in_place settings text) text xs z x low c.index.ensures in
    by_mark settings text c.remove.new.self.items is
    (mark_goes (λ (e : JudgedElement). e.span) (IsJudgedBy settings text) (stands_in_place settings text) text xs z x low c.index.ensures (sym (c.is_mark_alone.ensures.alone text seen within) ∙ flag)
    c.remove.new.self.items c.remove.ensures.by_index.2)
