use Rattle.std.proofs.Common.{rules, ◌≡◌, ◌+◌, ◌-◌, ◌≤◌, ℕ, List, ◌++◌, length, take, drop, sym, ap, subst, ◌∙◌, arith}
use Rattle.std.specs.Prelude.{slice_range}
use Rattle.std.proofs.Math.Seq.{take-add}
use Rattle.jx_run.specs.Reader.{HasRead}
use Rattle.jx_explain.proofs.reporting.verdict_whatever_names.Goals as goal

pub loop-done-preserved : goal.loop-done-preserved
loop-done-preserved g c =
    let text = c.args.text.now in
    let done = c.loop-done.done in
    let more = c.min.result in
    let within : done + more ≤ length text = search rules in
    let count : (done + more) - done ≡ more = omega arith in
    let both : take done text ++ slice_range text done (done + more) ≡ take (done + more) text =
    ap (λ (n : ℕ). take done text ++ take n (drop done text)) count ∙ sym (take-add done more text) in
    record {
      within = within;
      settings = search rules;
      start = search rules;
      read = subst (λ (xs : List ℕ). HasRead xs c.read_batch.new.reader) both (c.in_ok-read_batch.ensures.reads (take done text) c.loop-done.invariant.read);
    }
