use Rattle.std.proofs.Common.{◌≡◌, ◌+◌, ◌-◌, ◌≤◌, ℕ, List, [], length, take, refl, ap, subst, ◌∙◌, arith}
use Rattle.std.specs.Prelude.{slice_range}
use Rattle.std.proofs.lemmas.List.Edits.{length-between}
use Rattle.jx_run.specs.declared.texts.settings.FrontMark.TheVariants.{Refused}
use Rattle.jx_run.specs.declared.texts.settings.NameRule.TheVariants.{Any}
use Rattle.jx_run.specs.declared.texts.settings.Settings.{Settings}
use Rattle.jx_run.specs.ReaderInside.{IsReadTo}
use Rattle.jx_run.proofs.ElementSteps.{judged_element}
use Rattle.jx_run.proofs.ReaderFeeds.{depth_within}
use Rattle.jx_run.proofs.SeqReading.{slice-take}
use Rattle.jx_run.proofs.sequences.marked_elements.read_element.Goals as goal

abbrev plain : ℕ → Settings
plain limit = record { depth = limit; mark = Refused; names = Any }

abbrev bytes_of : goal.After-told → List ℕ
bytes_of c = slice_range c.args.text.now c.args.from c.args.to

-- the stack has read the element, and no byte before it
came_to : (c : goal.After-told) → IsReadTo (plain c.args.stack.now.depth) c.args.start (bytes_of c) c.in_ok-came.came c.read_beginning.new.stack
came_to c =
    let text : List ℕ = c.args.text.now in
    let from = c.args.from in
    let to = c.args.to in
    let s = plain c.args.stack.now.depth in
    let low : from ≤ to = c.requires.ordered in
    let high : to ≤ length text = c.requires.within in
    let here : take (to - from) (slice_range text from (length text)) ≡ bytes_of c =
    slice-take text from (length text) (to - from) (omega (arith, low, high)) ∙ ap (λ (n : ℕ). slice_range text from n) (let n : from + (to - from) ≡ to = omega (arith, low) in n) in
    let first = c.progress_at_start-begun.ensures.read s c.args.start c.reset.new.self refl c.reset.ensures.depth c.reset.ensures.reads in
    subst (λ (xs : List ℕ). IsReadTo s c.args.start xs c.in_ok-came.came c.read_beginning.new.stack) here
    (c.in_ok-came.ensures.reads s c.args.start [] (omega arith) first)

pub returns-clause-depth : goal.returns-clause-depth
returns-clause-depth c = depth_within (plain c.args.stack.now.depth) c.args.start (bytes_of c) _ _ (came_to c)

pub returns-clause-judged : goal.returns-clause-judged
returns-clause-judged c =
    let start = c.args.start in
    let text : List ℕ = c.args.text.now in
    let s = plain c.args.stack.now.depth in
    let by = c.verdict_at.ensures.verdict s start (bytes_of c) c.read_beginning.new.stack.reading c.whole.ensures (came_to c).outcome in
    let long : length (bytes_of c) ≡ c.args.to - c.args.from = length-between text c.args.from c.args.to c.requires.within in
    let end : start + (c.args.to - c.args.from) ≡ start + length (bytes_of c) = omega (arith, long) in
    judged_element c.args.stack.now.depth start (bytes_of c) start (start + (c.args.to - c.args.from)) c.verdict_at.result c.ends_open.result c.told.result refl end c.requires.marked
    ((c.verdicts_with_a_refused_mark.ensures.verdict s start (bytes_of c) c.verdict_at.result refl).0 by)
    c.ends_open.ensures c.told.ensures
