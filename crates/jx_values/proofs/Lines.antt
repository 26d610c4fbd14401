-- The lines of values, one by one.
use Rattle.std.proofs.Common.{◌≡◌, ℕ, ◌+◌, ◌<◌, ◌≤◌, List, [], ◌++◌, length, drop, get_or, refl, sym, ap, subst, ◌∙◌, append_assoc, append-nil}
use Rattle.std.specs.Prelude.{Option, flat_map}
use Rattle.std.specs.Io.KnownBytes.{Appends}
use Rattle.std.proofs.KnownBytes.{Appends-trans}
use Rattle.std.proofs.lemmas.List.{drop_all, drop_more}
use Rattle.jx_words.specs.declared.pointer_answer.PointerAnswer.{PointerAnswer}
use Rattle.jx_ends.specs.Ends.{AppendsBeginning}
use Rattle.jx_words.specs.inside.Room.{IsPut}
use Rattle.jx_words.proofs.PutSteps.{IsPutUpTo, beginning_of_more, put_in_part, put_more, put_on}
use Rattle.jx_values.specs.declared.form.Form.{Form}
use Rattle.jx_values.specs.Values.{value_line}

-- ---- what is put

-- what waits was written, and then all that is behind it
pub put_through : (a b c : Option (List ℕ)) (waiting bytes : List ℕ) → Appends a b waiting → Appends b c bytes → IsPut a c [] (waiting ++ bytes)
put_through a b c waiting bytes first second = record {
  front = waiting ++ bytes;
  wrote = Appends-trans a b c waiting bytes first second;
  whole = sym (append-nil (waiting ++ bytes));
}

-- what waits was written, and then a beginning of what is behind it
pub put_part : (a b c : Option (List ℕ)) (waiting bytes : List ℕ) → Appends a b waiting → AppendsBeginning b c bytes → AppendsBeginning a c (waiting ++ bytes)
put_part a b c waiting bytes first second =
    put_in_part a b bytes (waiting ++ bytes) (record { front = waiting; wrote = first; whole = refl }) c second

module _ (a b : Option (List ℕ)) (waiting mid bytes more : List ℕ) (p : IsPut a b mid (waiting ++ bytes)) where
  -- bytes, and then more of them
  pub put_both : (c : Option (List ℕ)) (next : List ℕ) → IsPut b c next (mid ++ more) → IsPut a c next (waiting ++ (bytes ++ more))
  put_both c next q =
      subst (IsPut a c next) (append_assoc waiting bytes more)
      (put_on a b (mid ++ more) ((waiting ++ bytes) ++ more) (put_more a b mid (waiting ++ bytes) p (mid ++ more) more refl) c next q)

  pub put_both_in_part : (c : Option (List ℕ)) → AppendsBeginning b c (mid ++ more) → AppendsBeginning a c (waiting ++ (bytes ++ more))
  put_both_in_part c q =
      subst (AppendsBeginning a c) (append_assoc waiting bytes more)
      (put_in_part a b (mid ++ more) ((waiting ++ bytes) ++ more) (put_more a b mid (waiting ++ bytes) p (mid ++ more) more refl) c q)

-- ---- what is put in turn

module _ (a b : Option (List ℕ)) (waiting rest whole : List ℕ) (p : IsPutUpTo a b waiting rest whole) (more later : List ℕ) (e : more ++ later ≡ rest) where
  so_far : IsPut a b (waiting ++ more) (p.so_far ++ more)
  so_far = put_more a b waiting p.so_far p.put (waiting ++ more) more refl

  to_come : (p.so_far ++ more) ++ later ≡ whole
  to_come = append_assoc p.so_far more later ∙ ap (λ (x : List ℕ). p.so_far ++ x) e ∙ p.to_come

  -- more of what is to come
  pub one_more : (c : Option (List ℕ)) (next : List ℕ) → IsPut b c next (waiting ++ more) → IsPutUpTo a c next later whole
  one_more c next q = record {
    so_far = p.so_far ++ more;
    put = put_on a b (waiting ++ more) (p.so_far ++ more) so_far c next q;
    to_come = to_come;
  }

  -- a beginning of more
  pub fails : (c : Option (List ℕ)) → AppendsBeginning b c (waiting ++ more) → AppendsBeginning a c whole
  fails c q =
      subst (AppendsBeginning a c) to_come
      (beginning_of_more a c (p.so_far ++ more) later (put_in_part a b (waiting ++ more) (p.so_far ++ more) so_far c q))

-- ---- lines in turn

module _ (form : Form) (text : List ℕ) (answers : List PointerAnswer) (i : ℕ) where
  pub next_line : (answer : PointerAnswer) → i < length answers → answer ≡ get_or answers i answer
      → value_line form text answer ++ flat_map (value_line form text) (drop (i + 1) answers) ≡ flat_map (value_line form text) (drop i answers)
  next_line answer h is =
      ap (λ (one : PointerAnswer). value_line form text one ++ flat_map (value_line form text) (drop (i + 1) answers)) is
      ∙ sym (ap (λ (x : List PointerAnswer). flat_map (value_line form text) x) (drop_more answers i answer h))

  pub no_line : (out : List ℕ) → length answers ≤ i → out ++ flat_map (value_line form text) (drop i answers) ≡ out
  no_line out h = ap (λ (x : List PointerAnswer). out ++ flat_map (value_line form text) x) (drop_all i answers h) ∙ append-nil out
