-- The values of one line, one by one, and what is told of its pointers.
use Rattle.std.proofs.Common.{◌≡◌, ℕ, zero, suc, ◌+◌, ◌<◌, List, [], ◌∷◌, ◌++◌, length, map, take, drop, get_or, refl, sym, ap, ◌∙◌, append_assoc, append-nil, arith}
use Rattle.std.specs.Prelude.{Result, flat_map}
use Rattle.std.proofs.lemmas.Grind.{flat_map-append}
use Rattle.std.proofs.lemmas.List.{drop_more, length-map, map_more}
use Rattle.jx_index.specs.declared.find_fault.FindFault.{FindFault}
use Rattle.jx_index.specs.declared.finder.Found.{Found}
use Rattle.jx_line_values.specs.declared.row_form.RowForm.{RowForm}
use Rattle.jx_line_values.specs.Cells.{separator}
use Rattle.jx_line_values.specs.LineValues.{joined, told_of_found}
use Rattle.jx_line_values.specs.inside.Adding.{between_before, told_of_all}

-- ---- one value more

pub one_more_value : (form : RowForm) (values : List (List ℕ)) (value : List ℕ)
    → joined (separator form) (values ++ value ∷ []) ≡ joined (separator form) values ++ (between_before form (length values) ++ value)
one_more_value form [] value = append-nil value
one_more_value form (first ∷ values) value =
    let in_front : List ℕ → List ℕ = λ (more : List ℕ). separator form ∷ more in
    ap (λ (xs : List ℕ). first ++ xs)
    (flat_map-append in_front values (value ∷ []) ∙ ap (λ (xs : List ℕ). flat_map in_front values ++ xs) (append-nil (separator form ∷ value)))
    ∙ sym (append_assoc first (flat_map in_front values) (separator form ∷ value))

length_taken : {X : Type 0} (n : ℕ) (xs : List X) → n < length xs → length (take n xs) ≡ n
length_taken zero xs low = refl
length_taken (suc n) [] low = absurd (omega (arith, low))
length_taken (suc n) (x ∷ xs) low = ap suc (length_taken n xs (omega (arith, low)))

-- of a list that is read up to a place
pub more_values : {X : Type 0} (form : RowForm) (f : X → List ℕ) (xs : List X) (place : ℕ) (one d : X) (out next : List ℕ) (start : List ℕ) → place < length xs → one ≡ get_or xs place d
    → out ≡ start ++ joined (separator form) (map f (take place xs)) → next ≡ out ++ (between_before form place ++ f one)
    → next ≡ start ++ joined (separator form) (map f (take (place + 1) xs))
more_values {X = X} form f xs place one d out next start low is before e =
    let values : List (List ℕ) = map f (take place xs) in
    let long : length values ≡ place = length-map (take place xs) f ∙ length_taken place xs low in
    e
    ∙ ap (λ (o : List ℕ). o ++ (between_before form place ++ f one)) before
    ∙ append_assoc start (joined (separator form) values) (between_before form place ++ f one)
    ∙ ap (λ (v : List ℕ). start ++ v)
    (ap (λ (n : ℕ). joined (separator form) values ++ (between_before form n ++ f one)) (sym long)
    ∙ sym (one_more_value form values (f one))
    ∙ ap (λ (x : X). joined (separator form) (values ++ f x ∷ [])) is
    ∙ ap (joined (separator form)) (sym (map_more f xs place d low)))

-- ---- what is told

module _ (form : RowForm) (number : ℕ) (bytes : List ℕ) (pointers : List (List ℕ)) (found : List (Result Found FindFault)) (i : ℕ) where
  pub one_more_told : (pointer : List ℕ) (one : Result Found FindFault) (out next : List ℕ) → i < length pointers → i < length found
      → pointer ≡ get_or pointers i pointer → one ≡ get_or found i one → next ≡ out ++ told_of_found form number bytes pointer one
      → next ++ told_of_all form number bytes (drop (i + 1) pointers) (drop (i + 1) found) ≡ out ++ told_of_all form number bytes (drop i pointers) (drop i found)
  one_more_told pointer one out next low short is_pointer is_one e =
      let later : List ℕ = told_of_all form number bytes (drop (i + 1) pointers) (drop (i + 1) found) in
      ap (λ (x : List ℕ). x ++ later) e
      ∙ append_assoc out (told_of_found form number bytes pointer one) later
      ∙ ap (λ (p : List ℕ). out ++ told_of_all form number bytes (p ∷ drop (i + 1) pointers) (one ∷ drop (i + 1) found)) is_pointer
      ∙ ap (λ (a : Result Found FindFault). out ++ told_of_all form number bytes (get_or pointers i pointer ∷ drop (i + 1) pointers) (a ∷ drop (i + 1) found)) is_one
      ∙ ap (λ (ps : List (List ℕ)). out ++ told_of_all form number bytes ps (get_or found i one ∷ drop (i + 1) found)) (sym (drop_more pointers i pointer low))
      ∙ ap (λ (fs : List (Result Found FindFault)). out ++ told_of_all form number bytes (drop i pointers) fs) (sym (drop_more found i one short))
