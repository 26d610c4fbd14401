-- Several pointers: strings that are read, what each comes to, and the lines.
use Rattle.std.proofs.Common.{◌≡◌, ℕ, suc, zero, ◌+◌, ◌<◌, ◌≤◌, List, [], ◌∷◌, ◌++◌, length, map, min, take, get_or, refl, sym, ap, subst, ◌∙◌, arith, append-nil, append_assoc}
use Rattle.std.specs.Prelude.{String, string_bytes, Option}
use Rattle.std.specs.declared.alloc.Global.{Global}
use Rattle.std.specs.List.{AllZip}
use Rattle.std.proofs.Math.Seq.{take-suc}
use Rattle.std.proofs.lemmas.List.{map-append, take_all}
use Rattle.jx_run.specs.Tree.{Tree}
use Rattle.jx_index.specs.declared.pointer.PointerFault.{PointerFault}
use Rattle.jx_ends.specs.declared.exit.Exit.TheVariants.{Good}
use Rattle.jx_words.specs.declared.pointer_answer.PointerAnswer.{PointerAnswer}
use Rattle.jx_words.specs.inside.ReadPointers.{AreReadPointers, IsReadPointer, each_answer}
use Rattle.jx_words.specs.inside.Lines.{exit_past_lines, pointer_lines}
use Rattle.jx_words.specs.Pointers.{IsAnswerTo, exit_after, PointerLines, no_pointer, one_more}
use Rattle.jx_words.proofs.LineSteps.{lines_and_one, exit_and_one}

-- ---- strings that are read

push : (spelt pointers : List (List ℕ)) (unread : List (Option PointerFault)) (s p : List ℕ) (u : Option PointerFault) → AreReadPointers spelt pointers unread
    → IsReadPointer s p u → AreReadPointers (spelt ++ s ∷ []) (pointers ++ p ∷ []) (unread ++ u ∷ [])
push [] [] [] s p u h one = (one, tt)
push [] [] (v ∷ unread) s p u h one = absurd h
push [] (q ∷ pointers) unread s p u h one = absurd h
push (t ∷ spelt) [] unread s p u h one = absurd h
push (t ∷ spelt) (q ∷ pointers) [] s p u h one = absurd h
push (t ∷ spelt) (q ∷ pointers) (v ∷ unread) s p u h one = (h.0, push spelt pointers unread s p u h.1 one)

-- one string more
pub read_step : (words : List (String Global)) (d : String Global) (i : ℕ) (word : List ℕ) (pointers more : List (List ℕ)) (unread rest : List (Option PointerFault))
    (p : List ℕ) (u : Option PointerFault) → i < length words → word ≡ string_bytes (get_or words i d) → AreReadPointers (map string_bytes (take i words)) pointers unread
    → IsReadPointer word p u → more ≡ pointers ++ p ∷ [] → rest ≡ unread ++ u ∷ [] → AreReadPointers (map string_bytes (take (i + 1) words)) more rest
read_step words d i word pointers more unread rest p u low is so_far one e f =
    let longer : map string_bytes (take (i + 1) words) ≡ map string_bytes (take i words) ++ word ∷ [] =
    ap (λ n. map string_bytes (take n words)) (let s : i + 1 ≡ suc i = omega arith in s)
    ∙ ap (λ x. map string_bytes x) (take-suc words i d low)
    ∙ map-append string_bytes (take i words) (get_or words i d ∷ [])
    ∙ ap (λ w. map string_bytes (take i words) ++ w ∷ []) (sym is) in
    subst (λ x. AreReadPointers x more rest) (sym longer)
    (subst (λ x. AreReadPointers (map string_bytes (take i words) ++ word ∷ []) x rest) (sym e)
    (subst (λ x. AreReadPointers (map string_bytes (take i words) ++ word ∷ []) (pointers ++ p ∷ []) x) (sym f)
    (push (map string_bytes (take i words)) pointers unread word p u so_far one)))

same_length : (spelt pointers : List (List ℕ)) (unread : List (Option PointerFault)) → AreReadPointers spelt pointers unread → length unread ≡ length pointers
same_length [] [] [] h = refl
same_length [] [] (u ∷ unread) h = absurd h
same_length [] (p ∷ pointers) unread h = absurd h
same_length (s ∷ spelt) [] unread h = absurd h
same_length (s ∷ spelt) (p ∷ pointers) [] h = absurd h
same_length (s ∷ spelt) (p ∷ pointers) (u ∷ unread) h = ap suc (same_length spelt pointers unread h.1)

zip_length : {A B : Type 0} (R : A → B → Type 0) (xs : List A) (ys : List B) → AllZip R xs ys → length xs ≡ length ys
zip_length R [] [] h = refl
zip_length R [] (y ∷ ys) h = absurd h
zip_length R (x ∷ xs) [] h = absurd h
zip_length R (x ∷ xs) (y ∷ ys) h = ap suc (zip_length R xs ys h.1)

-- there are as many of them as something is found for
pub as_many : {A : Type 0} (R : List ℕ → A → Type 0) (spelt pointers : List (List ℕ)) (unread : List (Option PointerFault)) (found : List A)
    → AreReadPointers spelt pointers unread → AllZip R pointers found → length unread ≡ length found
as_many R spelt pointers unread found h k = same_length spelt pointers unread h ∙ zip_length R pointers found k

-- ---- answers

module _ {A : Type 0} (answer_of : Option PointerFault → A → PointerAnswer) where
  answers_and_one : (unread : List (Option PointerFault)) (found : List A) (i : ℕ) (d : Option PointerFault) (e : A) → i < length unread → i < length found
      → each_answer answer_of (take (suc i) unread) (take (suc i) found)
      ≡ each_answer answer_of (take i unread) (take i found) ++ answer_of (get_or unread i d) (get_or found i e) ∷ []
  unfolding each_answer
  answers_and_one [] found i d e low short = absurd (omega (arith, low))
  answers_and_one (u ∷ unread) [] i d e low short = absurd (omega (arith, short))
  answers_and_one (u ∷ unread) (f ∷ found) zero d e low short = refl
  answers_and_one (u ∷ unread) (f ∷ found) (suc i) d e low short =
      ap (λ rest. answer_of u f ∷ rest) (answers_and_one unread found i d e (omega (arith, low)) (omega (arith, short)))

  pub no_answers : (unread : List (Option PointerFault)) (found : List A) (out : List PointerAnswer) → out ≡ [] → out ≡ each_answer answer_of (take 0 unread) (take 0 found)
  unfolding each_answer
  no_answers unread found out e = e

  -- one answer more
  pub answers_step : (unread : List (Option PointerFault)) (found : List A) (i : ℕ) (d : Option PointerFault) (e : A) (out next : List PointerAnswer) (one : PointerAnswer)
      → i < length unread → i < length found → out ≡ each_answer answer_of (take i unread) (take i found)
      → one ≡ answer_of (get_or unread i d) (get_or found i e) → next ≡ out ++ one ∷ [] → next ≡ each_answer answer_of (take (i + 1) unread) (take (i + 1) found)
  answers_step unread found i d e out next one low short so_far is grown =
      let more : i + 1 ≡ suc i = omega arith in
      grown
      ∙ ap (λ xs. xs ++ one ∷ []) so_far
      ∙ ap (λ a. each_answer answer_of (take i unread) (take i found) ++ a ∷ []) is
      ∙ sym (answers_and_one unread found i d e low short)
      ∙ sym (ap (λ n. each_answer answer_of (take n unread) (take n found)) more)

  pub answers_done : (unread : List (Option PointerFault)) (found : List A) (i : ℕ) (out : List PointerAnswer) → length unread ≤ i → length unread ≡ length found
      → out ≡ each_answer answer_of (take i unread) (take i found) → out ≡ each_answer answer_of unread found
  answers_done unread found i out high same so_far =
      so_far
      ∙ ap (λ us. each_answer answer_of us (take i found)) (take_all i unread high)
      ∙ ap (λ fs. each_answer answer_of unread fs) (take_all i found (omega arith))

  all_told : (unread : List (Option PointerFault)) (found : List A) (i : ℕ) → min (length unread) (length found) ≤ i
      → each_answer answer_of (take i unread) (take i found) ≡ each_answer answer_of unread found
  unfolding each_answer
  all_told [] found i high = ap (λ us. each_answer answer_of us (take i found)) (take_all i [] (omega arith))
  all_told (u ∷ unread) [] zero high = refl
  all_told (u ∷ unread) [] (suc i) high = refl
  all_told (u ∷ unread) (f ∷ found) zero high = absurd (omega (arith, high))
  all_told (u ∷ unread) (f ∷ found) (suc i) high = ap (λ rest. answer_of u f ∷ rest) (all_told unread found i (omega (arith, high)))

  -- as many as there are of both
  pub answers_all : (unread : List (Option PointerFault)) (found : List A) (i : ℕ) (out : List PointerAnswer) → min (length unread) (length found) ≤ i
      → out ≡ each_answer answer_of (take i unread) (take i found) → out ≡ each_answer answer_of unread found
  answers_all unread found i out high so_far = so_far ∙ all_told unread found i high

-- ---- lines

module _ (text : List ℕ) (tree : Tree) where
  lines_past : (done more : List (List ℕ)) (answers rest : List PointerAnswer) → PointerLines text tree done (pointer_lines answers) (exit_past_lines Good answers)
      → AllZip (IsAnswerTo text tree) more rest → PointerLines text tree (done ++ more) (pointer_lines (answers ++ rest)) (exit_past_lines Good (answers ++ rest))
  lines_past done [] answers [] lines h =
      subst (λ xs. PointerLines text tree xs (pointer_lines (answers ++ [])) (exit_past_lines Good (answers ++ []))) (sym (append-nil done))
      (subst (λ (xs : List PointerAnswer). PointerLines text tree done (pointer_lines xs) (exit_past_lines Good xs)) (sym (append-nil answers)) lines)
  lines_past done [] answers (a ∷ rest) lines h = absurd h
  lines_past done (p ∷ more) answers [] lines h = absurd h
  lines_past done (p ∷ more) answers (a ∷ rest) lines h =
      let longer : PointerLines text tree (done ++ p ∷ []) (pointer_lines (answers ++ a ∷ [])) (exit_past_lines Good (answers ++ a ∷ [])) =
      subst (λ x. PointerLines text tree (done ++ p ∷ []) (pointer_lines (answers ++ a ∷ [])) x) (sym (exit_and_one Good answers a))
      (subst (λ x. PointerLines text tree (done ++ p ∷ []) x (exit_after (exit_past_lines Good answers) a)) (sym (lines_and_one answers a)) (one_more lines p a h.0)) in
      subst (λ xs. PointerLines text tree xs (pointer_lines (answers ++ a ∷ rest)) (exit_past_lines Good (answers ++ a ∷ rest))) (append_assoc done (p ∷ []) more)
      (subst (λ (xs : List PointerAnswer). PointerLines text tree ((done ++ p ∷ []) ++ more) (pointer_lines xs) (exit_past_lines Good xs)) (append_assoc answers (a ∷ []) rest)
      (lines_past (done ++ p ∷ []) more (answers ++ a ∷ []) rest longer h.1))

  pub lines_of : (spelt : List (List ℕ)) (answers : List PointerAnswer) → AllZip (IsAnswerTo text tree) spelt answers
      → PointerLines text tree spelt (pointer_lines answers) (exit_past_lines Good answers)
  unfolding pointer_lines exit_past_lines
  lines_of spelt answers h = lines_past [] spelt [] answers no_pointer h

  module _ {A : Type 0} (answer_of : Option PointerFault → A → PointerAnswer) (R : List ℕ → A → Type 0)
      (one : (s p : List ℕ) (u : Option PointerFault) (f : A) → IsReadPointer s p u → R p f → IsAnswerTo text tree s (answer_of u f)) where
    pub each_answers : (spelt pointers : List (List ℕ)) (unread : List (Option PointerFault)) (found : List A) → AreReadPointers spelt pointers unread → AllZip R pointers found
        → AllZip (IsAnswerTo text tree) spelt (each_answer answer_of unread found)
    unfolding each_answer
    each_answers [] [] [] found h k = tt
    each_answers [] [] (u ∷ unread) found h k = absurd h
    each_answers [] (p ∷ pointers) unread found h k = absurd h
    each_answers (s ∷ spelt) [] unread found h k = absurd h
    each_answers (s ∷ spelt) (p ∷ pointers) [] found h k = absurd h
    each_answers (s ∷ spelt) (p ∷ pointers) (u ∷ unread) [] h k = absurd k
    each_answers (s ∷ spelt) (p ∷ pointers) (u ∷ unread) (f ∷ found) h k = (one s p u f h.0 k.0, each_answers spelt pointers unread found h.1 k.1)
