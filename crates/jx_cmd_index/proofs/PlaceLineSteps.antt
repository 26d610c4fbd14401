-- One pointer's line more.
use Rattle.std.proofs.Common.{◌≡◌, ℕ, suc, ◌+◌, ◌<◌, List, [], ◌∷◌, ◌++◌, length, take, sym, ap, ◌∙◌, arith, get_or}
use Rattle.std.proofs.Math.Seq.{take-suc}
use Rattle.jx_words.specs.declared.pointer_answer.PointerAnswer.{PointerAnswer}
use Rattle.jx_words.specs.Pointers.{answer_words}
use Rattle.jx_words.specs.inside.Lines.{pointer_lines}
use Rattle.jx_words.specs.Words.{line}
use Rattle.jx_words.proofs.LineSteps.{lines_and_one}

pub longer : {A : Type 0} (i : ℕ) (xs : List A) (one d : A) → i < length xs → one ≡ get_or xs i d → take (i + 1) xs ≡ take i xs ++ one ∷ []
longer i xs one d low is = ap (λ (n : ℕ). take n xs) (let s : i + 1 ≡ suc i = omega arith in s) ∙ take-suc xs i d low ∙ ap (λ x. take i xs ++ x ∷ []) (sym is)

pub no_lines : (out : List ℕ) → out ≡ [] → out ≡ pointer_lines []
unfolding pointer_lines
no_lines out e = e

module _ (i : ℕ) (lines : List PointerAnswer) (one d : PointerAnswer) (low : i < length lines) (is : one ≡ get_or lines i d) where
  pub lines_step : (out next : List ℕ) → out ≡ pointer_lines (take i lines) → next ≡ out ++ line (answer_words one) → next ≡ pointer_lines (take (i + 1) lines)
  lines_step out next so_far e =
      e
      ∙ ap (λ x. x ++ line (answer_words one)) so_far
      ∙ sym (lines_and_one (take i lines) one)
      ∙ sym (ap (λ (x : List PointerAnswer). pointer_lines x) (longer i lines one d low is))
