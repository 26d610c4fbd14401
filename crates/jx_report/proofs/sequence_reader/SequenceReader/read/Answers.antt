use Rattle.std.proofs.Common.{◌≡◌, ◌<◌, ◌≤◌, ℕ, List, ◌++◌, length, sym, subst, ◌∙◌, arith}
use Rattle.std.proofs.lemmas.Result.{on_ok_weaker}
use Rattle.jx_report.specs.inside.Sequences.{AreReadBy, BeginsWith}
use Rattle.jx_report.proofs.FirstBytes.{first_apart}
use Rattle.jx_report.proofs.SequenceSteps.{three_parts}
use Rattle.jx_report.proofs.sequence_reader.SequenceReader.read.Goals as goal

pub returns : goal.returns
returns g c =
    let batch = c.args.batch.now in
    let old = c.args.self.now in
    let kept = c.keep_first.new.self in
    let new = c.go_on-3.new.self in
    let i = c.in-Some.part.start in
    let j = c.in-Some.part.end in
    let low : i < j = c.in-Some.ensures.ordered in
    let high : j ≤ length batch = c.in-Some.ensures.within in
    let first : new.first ≡ kept.first = c.go_on-3.ensures.first ∙ c.in_ok-pass.ensures.first ∙ c.in_ok-go_on.ensures.first in
    record {
      reads = on_ok_weaker c.go_on-3.result
          (λ reads settings text h.
          record {
            first = subst (λ f. BeginsWith f (text ++ batch)) (sym first) (c.in_ok-keep_first.ensures.first text h.first);
            read = subst (λ (xs : List ℕ). AreReadBy settings xs new) (three_parts text batch i j (omega (arith, low)) high)
                (reads settings _ (c.in_ok-pass.ensures.reads settings _ (c.in_ok-go_on.ensures.reads settings text
                (subst (AreReadBy settings text) (sym c.in_ok-keep_first.ensures.rest) (first_apart settings text old kept.first h.read)))));
          }) c.go_on-3.ensures.reads;
    }
