-- What is kept for several pointers, and their values among one another.
use Rattle.std.specs.Prelude.{flat_map}
use Rattle.std.specs.List.{AllWithin}
use Rattle.std.proofs.Common.{◌≡◌, ◌≢◌, ℕ, ◌+◌, ◌<◌, ◌≤◌, List, [], ◌∷◌, ◌++◌, length, get_or, set, take, refl, sym, ap, subst, ◌∙◌, arith, append-nil, append_assoc}
use Rattle.std.proofs.lemmas.List.{get_or-set_other, get_or_default, length-set, take_all}
use Rattle.std.proofs.lemmas.List.Elements.{AllWithin-more_set, all_zip_more}
use Rattle.jx_words.specs.declared.pointer_answer.PointerAnswer.{PointerAnswer}
use Rattle.jx_values.specs.declared.form.Form.{Form}
use Rattle.jx_values.specs.declared.kept.Kept.{Kept}
use Rattle.jx_values.specs.Values.{told_line, told_lines, value_line}
use Rattle.jx_values.specs.inside.Moved.{AllStaySame, AreSame, StaySame}

-- ---- what is kept

-- those that took the batch in, and those that did not yet
pub record AreKeptSo (P Q : Kept → Type 0) (kept : List Kept) (n : ℕ) : Type 0 where
  pub done : AllWithin Q kept 0 n
  pub rest : AllWithin P kept n (length kept)

pub kept_step : (P Q : Kept → Type 0) (kept : List Kept) (n : ℕ) (one : Kept) → n < length kept → Q one → AreKeptSo P Q kept n → AreKeptSo P Q (set kept n one) (n + 1)
kept_step P Q kept n one low new h = record {
  done = AllWithin-more_set kept n one low Q h.done new;
  rest = λ k d from to.
      let long : length (set kept n one) ≡ length kept = length-set kept n one in
      let other : k ≢ n = λ (e : k ≡ n). absurd (omega (arith, from, e)) in
      subst P (sym (get_or-set_other kept n k one d other)) (h.rest k d (omega (arith, from)) (omega (arith, to, long)));
}

-- ---- values among others

-- as more bytes follow
pub stay_on : (text bytes more : List ℕ) (answers moved : List PointerAnswer) → AllStaySame text bytes answers moved → AllStaySame text (bytes ++ more) answers moved
stay_on text bytes more [] [] h = tt
stay_on text bytes more [] (m ∷ moved) h = absurd h
stay_on text bytes more (a ∷ answers) [] h = absurd h
stay_on text bytes more (a ∷ answers) (m ∷ moved) h = (
  λ later. subst (λ (l : List ℕ). AreSame text a l m) (sym (append_assoc bytes more later)) (h.0 (more ++ later)),
  stay_on text bytes more answers moved h.1,
)

pub stay_step : (text bytes more next : List ℕ) (answers moved : List PointerAnswer) (i : ℕ) (d here : PointerAnswer) → i < length answers
    → AllStaySame text bytes (take i answers) moved → next ≡ bytes ++ more → StaySame text next (get_or answers i d) here → AllStaySame text next (take (i + 1) answers) (moved ++ here ∷ [])
stay_step text bytes more next answers moved i d here low h grown same =
    all_zip_more (StaySame text next) answers moved i (get_or answers i d) here low (get_or_default answers i d (get_or answers i d) low)
    (subst (λ (l : List ℕ). AllStaySame text l (take i answers) moved) (sym grown) (stay_on text bytes more (take i answers) moved h)) same

pub stay_all : (text bytes : List ℕ) (answers moved : List PointerAnswer) (i : ℕ) → length answers ≤ i → AllStaySame text bytes (take i answers) moved → AllStaySame text bytes answers moved
stay_all text bytes answers moved i high h = subst (λ (l : List PointerAnswer). AllStaySame text bytes l moved) (take_all i answers high) h

-- ---- what is written and told of them

module _ (text bytes : List ℕ) where
  same_now : (answer here : PointerAnswer) → StaySame text bytes answer here → AreSame text answer bytes here
  same_now answer here h = subst (λ (l : List ℕ). AreSame text answer l here) (append-nil bytes) (h [])

  pub lines_same : (form : Form) (answers moved : List PointerAnswer) → AllStaySame text bytes answers moved → flat_map (value_line form bytes) moved ≡ flat_map (value_line form text) answers
  lines_same form [] [] h = refl
  lines_same form [] (m ∷ moved) h = absurd h
  lines_same form (a ∷ answers) [] h = absurd h
  lines_same form (a ∷ answers) (m ∷ moved) h =
      ap (λ (l : List ℕ). l ++ flat_map (value_line form bytes) moved) ((same_now a m h.0).line form)
      ∙ ap (λ (l : List ℕ). value_line form text a ++ l) (lines_same form answers moved h.1)

  pub told_same : (form : Form) (pointers : List (List ℕ)) (answers moved : List PointerAnswer) → AllStaySame text bytes answers moved → told_lines form bytes pointers moved ≡ told_lines form text pointers answers
  told_same form [] answers moved h = refl
  told_same form (p ∷ pointers) [] [] h = refl
  told_same form (p ∷ pointers) [] (m ∷ moved) h = absurd h
  told_same form (p ∷ pointers) (a ∷ answers) [] h = absurd h
  told_same form (p ∷ pointers) (a ∷ answers) (m ∷ moved) h =
      ap (λ (l : List ℕ). l ++ told_lines form bytes pointers moved) ((same_now a m h.0).told form p)
      ∙ ap (λ (l : List ℕ). told_line form text p a ++ l) (told_same form pointers answers moved h.1)
