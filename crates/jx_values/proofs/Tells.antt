-- What is told of pointers, one by one.
use Rattle.std.proofs.Common.{◌≡◌, ℕ, ◌+◌, ◌<◌, List, ◌∷◌, ◌++◌, length, drop, get_or, sym, ap, ◌∙◌, append_assoc}
use Rattle.std.proofs.lemmas.List.{drop_more}
use Rattle.jx_words.specs.declared.pointer_answer.PointerAnswer.{PointerAnswer}
use Rattle.jx_values.specs.declared.form.Form.{Form}
use Rattle.jx_values.specs.Values.{told_line, told_lines}

module _ (form : Form) (text : List ℕ) (pointers : List (List ℕ)) (answers : List PointerAnswer) (i : ℕ) where
  pub one_more : (pointer : List ℕ) (answer : PointerAnswer) (out next : List ℕ) → i < length pointers → i < length answers
      → pointer ≡ get_or pointers i pointer → answer ≡ get_or answers i answer → next ≡ out ++ told_line form text pointer answer
      → next ++ told_lines form text (drop (i + 1) pointers) (drop (i + 1) answers) ≡ out ++ told_lines form text (drop i pointers) (drop i answers)
  one_more pointer answer out next low short is_pointer is_answer e =
      let later : List ℕ = told_lines form text (drop (i + 1) pointers) (drop (i + 1) answers) in
      ap (λ (x : List ℕ). x ++ later) e
      ∙ append_assoc out (told_line form text pointer answer) later
      ∙ ap (λ (p : List ℕ). out ++ told_lines form text (p ∷ drop (i + 1) pointers) (answer ∷ drop (i + 1) answers)) is_pointer
      ∙ ap (λ (a : PointerAnswer). out ++ told_lines form text (get_or pointers i pointer ∷ drop (i + 1) pointers) (a ∷ drop (i + 1) answers)) is_answer
      ∙ ap (λ (ps : List (List ℕ)). out ++ told_lines form text ps (get_or answers i answer ∷ drop (i + 1) answers)) (sym (drop_more pointers i pointer low))
      ∙ ap (λ (as_ : List PointerAnswer). out ++ told_lines form text (drop i pointers) as_) (sym (drop_more answers i answer short))
