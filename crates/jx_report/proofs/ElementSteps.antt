-- One element's line more.
use Rattle.std.proofs.Common.{◌≡◌, ℕ, suc, ◌+◌, ◌<◌, ◌≤◌, List, ◌++◌, length, drop, sym, ap, ◌∙◌, arith, get_or, drop-cons, append_assoc, append-nil}
use Rattle.std.proofs.Math.ListN.{drop_of_length-le}
use Rattle.jx_run.specs.declared.sequences.element_verdict.JudgedElement.{JudgedElement}
use Rattle.jx_ends.specs.declared.exit.Exit.{Exit}
use Rattle.jx_report.specs.Elements.{judged_line, judged_lines, exit_past_verdict, exit_past_judged}

module _ (i : ℕ) (elements : List JudgedElement) where
  pub elements_step : (element d : JudgedElement) (out next : List ℕ) → i < length elements → element ≡ get_or elements i d
      → next ≡ out ++ judged_line element → next ++ judged_lines (drop (i + 1) elements) ≡ out ++ judged_lines (drop i elements)
  unfolding judged_lines
  elements_step element d out next h is e =
      let rest : List ℕ = judged_lines (drop (suc i) elements) in
      ap (λ (n : ℕ). next ++ judged_lines (drop n elements)) (let s : i + 1 ≡ suc i = omega arith in s)
      ∙ ap (λ x. x ++ rest) (e ∙ ap (λ (x : JudgedElement). out ++ judged_line x) is)
      ∙ append_assoc out (judged_line (get_or elements i d)) rest
      ∙ sym (ap (λ (x : List JudgedElement). out ++ judged_lines x) (drop-cons elements i d h))

  pub elements_done : (out : List ℕ) → length elements ≤ i → out ++ judged_lines (drop i elements) ≡ out
  unfolding judged_lines
  elements_done out h = ap (λ (x : List JudgedElement). out ++ judged_lines x) (drop_of_length-le elements h) ∙ append-nil out

  pub exit_step : (element d : JudgedElement) (exit next : Exit) → i < length elements → element ≡ get_or elements i d
      → next ≡ exit_past_verdict exit element.verdict → exit_past_judged next (drop (i + 1) elements) ≡ exit_past_judged exit (drop i elements)
  unfolding exit_past_judged
  exit_step element d exit next h is e =
      ap (λ (n : ℕ). exit_past_judged next (drop n elements)) (let s : i + 1 ≡ suc i = omega arith in s)
      ∙ ap (λ x. exit_past_judged x (drop (suc i) elements)) (e ∙ ap (λ (x : JudgedElement). exit_past_verdict exit x.verdict) is)
      ∙ sym (ap (λ (x : List JudgedElement). exit_past_judged exit x) (drop-cons elements i d h))

  pub exit_done : (exit : Exit) → length elements ≤ i → exit_past_judged exit (drop i elements) ≡ exit
  unfolding exit_past_judged
  exit_done exit h = ap (λ (x : List JudgedElement). exit_past_judged exit x) (drop_of_length-le elements h)
