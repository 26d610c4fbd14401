-- One pointer's line more.
use Rattle.std.proofs.Common.{◌≡◌, ℕ, suc, ◌+◌, ◌<◌, ◌≤◌, List, [], ◌∷◌, ◌++◌, length, drop, refl, sym, ap, ◌∙◌, arith, get_or, drop-cons, append_assoc, append-nil}
use Rattle.std.proofs.Math.ListN.{drop_of_length-le}
use Rattle.jx_ends.specs.declared.exit.Exit.{Exit}
use Rattle.jx_words.specs.declared.pointer_answer.PointerAnswer.{PointerAnswer}
use Rattle.jx_words.specs.Pointers.{answer_words, exit_after}
use Rattle.jx_words.specs.inside.Lines.{exit_past_lines, pointer_lines}
use Rattle.jx_words.specs.Words.{line}

-- ---- behind a list of lines

pub lines_and_one : (lines : List PointerAnswer) (one : PointerAnswer) → pointer_lines (lines ++ one ∷ []) ≡ pointer_lines lines ++ line (answer_words one)
unfolding pointer_lines
lines_and_one [] one = append-nil (line (answer_words one))
lines_and_one (l ∷ lines) one =
    ap (λ x. line (answer_words l) ++ x) (lines_and_one lines one)
    ∙ sym (append_assoc (line (answer_words l)) (pointer_lines lines) (line (answer_words one)))

pub exit_and_one : (exit : Exit) (lines : List PointerAnswer) (one : PointerAnswer) → exit_past_lines exit (lines ++ one ∷ []) ≡ exit_after (exit_past_lines exit lines) one
unfolding exit_past_lines
exit_and_one exit [] one = refl
exit_and_one exit (l ∷ lines) one = exit_and_one (exit_after exit l) lines one

-- ---- place by place

module _ (i : ℕ) (lines : List PointerAnswer) where
  pub pointers_step : (one d : PointerAnswer) (out next : List ℕ) → i < length lines → one ≡ get_or lines i d
      → next ≡ out ++ line (answer_words one) → next ++ pointer_lines (drop (i + 1) lines) ≡ out ++ pointer_lines (drop i lines)
  unfolding pointer_lines
  pointers_step one d out next h is e =
      let rest : List ℕ = pointer_lines (drop (suc i) lines) in
      ap (λ (n : ℕ). next ++ pointer_lines (drop n lines)) (let s : i + 1 ≡ suc i = omega arith in s)
      ∙ ap (λ x. x ++ rest) (e ∙ ap (λ (x : PointerAnswer). out ++ line (answer_words x)) is)
      ∙ append_assoc out (line (answer_words (get_or lines i d))) rest
      ∙ sym (ap (λ (x : List PointerAnswer). out ++ pointer_lines x) (drop-cons lines i d h))

  pub pointers_done : (out : List ℕ) → length lines ≤ i → out ++ pointer_lines (drop i lines) ≡ out
  unfolding pointer_lines
  pointers_done out h = ap (λ (x : List PointerAnswer). out ++ pointer_lines x) (drop_of_length-le lines h) ∙ append-nil out

  pub exit_step : (one d : PointerAnswer) (exit next : Exit) → i < length lines → one ≡ get_or lines i d
      → next ≡ exit_after exit one → exit_past_lines next (drop (i + 1) lines) ≡ exit_past_lines exit (drop i lines)
  unfolding exit_past_lines
  exit_step one d exit next h is e =
      ap (λ (n : ℕ). exit_past_lines next (drop n lines)) (let s : i + 1 ≡ suc i = omega arith in s)
      ∙ ap (λ x. exit_past_lines x (drop (suc i) lines)) (e ∙ ap (λ (x : PointerAnswer). exit_after exit x) is)
      ∙ sym (ap (λ (x : List PointerAnswer). exit_past_lines exit x) (drop-cons lines i d h))

  pub exit_done : (exit : Exit) → length lines ≤ i → exit_past_lines exit (drop i lines) ≡ exit
  unfolding exit_past_lines
  exit_done exit h = ap (λ (x : List PointerAnswer). exit_past_lines exit x) (drop_of_length-le lines h)
