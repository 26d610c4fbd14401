use Rattle.std.proofs.Common.{◌≡◌, ◌+◌, ◌∙◌, ap, arith, drop, take, ℕ}
use Rattle.std.proofs.lemmas.List.{take_rest}
use Rattle.std.proofs.lemmas.List.Sums.{sum_by-take-drop}
use Rattle.std.proofs.Math.Seq.{take-add}
use Rattle.std.specs.Prelude.{cond}
use Rattle.jx_file_lines.specs.Lines.{feeds_in, is_line_feed}
use Rattle.jx_file_lines.proofs.Entries.{feeds_append}
use Rattle.jx_file_lines.proofs.counting.feeds_in.Goals as goal

pub lanes-preserved : goal.lanes-preserved
lanes-preserved c =
    let text = c.args.text.now in
    let i = c.lanes.i in
    let was = c.lanes.invariant in
    let few = c.feeds_at-count.ensures.within in
    let test = c.lanes-test.true in
    let low = was.few in
    let within = was.within in
    let joined : feeds_in (take (i + 64) text) ≡ feeds_in (take i text) + feeds_in (take 64 (drop i text)) =
    ap feeds_in (take-add i 64 text) ∙ feeds_append (take i text) (take 64 (drop i text)) in
    let value = was.value in
    let more = c.feeds_at-count.ensures.value in
    record {
      within = omega (arith, within, test);
      few = omega (arith, low, few);
      value = omega (arith, value, more, joined);
    }

pub returns-clause-value : goal.returns-clause-value
returns-clause-value c =
    let text = c.args.text.now in
    let i = c.lanes.i in
    let value = c.lanes.invariant.value in
    let rest = c.feeds_one_by_one.ensures.value ∙ ap feeds_in (take_rest text i) in
    let all : feeds_in (take i text) + feeds_in (drop i text) ≡ feeds_in text = sum_by-take-drop (λ (x : ℕ). cond (is_line_feed x) 1 0) text i in
    omega (arith, value, rest, all)
