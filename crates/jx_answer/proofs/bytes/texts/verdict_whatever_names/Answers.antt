use Rattle.std.proofs.Common.{ℕ, [], subst, ◌∙◌}
use Rattle.jx_run.specs.declared.texts.settings.Settings.{Settings}
use Rattle.jx_run.specs.Settings.{JudgedBy}
use Rattle.jx_answer.proofs.bytes.texts.verdict_whatever_names.Goals as goal

pub returns-then-count-le1 : goal.returns-then-count-le1
returns-then-count-le1 g c =
    let text = c.args.text.now in
    let read = c.in_ok-read_pieces.ensures in
    let verdict = c.verdict.ensures.verdict text (read.reads [] c.new-reader.ensures.reads) in
    record {
      verdict = subst (λ (p : Settings × ℕ). JudgedBy p.0 p.1 text c.verdict.result)
          (λ i. ((read.settings ∙ c.new-reader.ensures.settings) i, (read.start ∙ c.new-reader.ensures.start) i)) verdict;
    }
