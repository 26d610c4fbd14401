-- A cell is read as the text that it was written for.
use Rattle.std.proofs.Common.{◌≡◌, ◌≢◌, ℕ, List, [], ◌∷◌, ◌++◌, Bool, true, false, refl, sym, ap, subst, ◌∙◌, arith}
use Rattle.std.specs.Prelude.{◌&&◌, ◌==◌, All, Option, Some, None, flat_map, if◌then◌else◌, length, nat_eq}
use Rattle.std.specs.Cmp.Lexicographic.{pointwise}
use Rattle.std.specs.List.{list_all}
use Rattle.std.specs.Option.{option_map}
use Rattle.std.proofs.lemmas.Bool.Decides.{nat_tests}
use Rattle.std.proofs.lemmas.List.Elements.{All-append, All-cons, All-head, All-nil}
use Rattle.jx_line_values.specs.declared.row_form.RowForm.TheVariants.{Csv}
use Rattle.jx_line_values.specs.Cells.{quoted, doubled, escaped, is_bare, is_plain, text_cell}
use Rattle.jx_line_values.specs.Fields.{bare, marked, nothing, one, read_from, twice, IsField, IsInside, IsOfCell, IsTextData}

-- ---- between tabs

module _ (b : ℕ) (rest : List ℕ) where
  abbrev more : Type 0
  more = read_from false (escaped b ++ rest) ≡ option_map (λ (text : List ℕ). b ∷ text) (read_from false rest)

  plain : (b == 0x09) ≡ false → (b == 0x0a) ≡ false → (b == 0x0d) ≡ false → (b == 0x5c) ≡ false → more
  plain t f r s = rw (t, f, r, s) (rw s refl)

  by_backslash : (v : Bool) → (b == 0x09) ≡ false → (b == 0x0a) ≡ false → (b == 0x0d) ≡ false → (b == 0x5c) ≡ v → more
  by_backslash true t f r s = let is : b ≡ 0x5c = grind (arith, nat_tests) in rw is refl
  by_backslash false t f r s = plain t f r s

  by_return : (v : Bool) → (b == 0x09) ≡ false → (b == 0x0a) ≡ false → (b == 0x0d) ≡ v → more
  by_return true t f r = let is : b ≡ 0x0d = grind (arith, nat_tests) in rw is refl
  by_return false t f r = by_backslash (b == 0x5c) t f r refl

  by_feed : (v : Bool) → (b == 0x09) ≡ false → (b == 0x0a) ≡ v → more
  by_feed true t f = let is : b ≡ 0x0a = grind (arith, nat_tests) in rw is refl
  by_feed false t f = by_return (b == 0x0d) t f refl

  by_tab : (v : Bool) → (b == 0x09) ≡ v → more
  by_tab true t = let is : b ≡ 0x09 = grind (arith, nat_tests) in rw is refl
  by_tab false t = by_feed (b == 0x0a) t refl

  one_more : more
  one_more = by_tab (b == 0x09) refl

pub text_of_tabs : (text : List ℕ) → read_from false (flat_map escaped text) ≡ Some text
text_of_tabs [] = refl
text_of_tabs (b ∷ text) = one_more b (flat_map escaped text) ∙ ap (option_map (λ (more : List ℕ). b ∷ more)) (text_of_tabs text)

differ : (n m : ℕ) → (n == m) ≡ false → n ≢ m
differ n m h e = grind (arith, nat_tests)

is_of_cell : (n : ℕ) → (n == 0x09) ≡ false → (n == 0x0a) ≡ false → (n == 0x0d) ≡ false → IsOfCell n
is_of_cell n t f r = (differ n 0x09 t, differ n 0x0a f, differ n 0x0d r)

behind_backslash : (n : ℕ) → (n == 0x09) ≡ false → (n == 0x0a) ≡ false → (n == 0x0d) ≡ false → All IsOfCell (0x5c ∷ n ∷ [])
behind_backslash n t f r = All-cons IsOfCell 0x5c (n ∷ []) (is_of_cell 0x5c refl refl refl) (All-cons IsOfCell n [] (is_of_cell n t f r) (All-nil IsOfCell))

module _ (b : ℕ) where
  abbrev all : Type 0
  all = All IsOfCell (escaped b)

  all_by_backslash : (v : Bool) → (b == 0x09) ≡ false → (b == 0x0a) ≡ false → (b == 0x0d) ≡ false → (b == 0x5c) ≡ v → all
  all_by_backslash true t f r s = let is : b ≡ 0x5c = grind (arith, nat_tests) in rw is (behind_backslash 0x5c refl refl refl)
  all_by_backslash false t f r s = rw (t, f, r, s) (All-cons IsOfCell b [] (is_of_cell b t f r) (All-nil IsOfCell))

  all_by_return : (v : Bool) → (b == 0x09) ≡ false → (b == 0x0a) ≡ false → (b == 0x0d) ≡ v → all
  all_by_return true t f r = let is : b ≡ 0x0d = grind (arith, nat_tests) in rw is (behind_backslash 0x72 refl refl refl)
  all_by_return false t f r = all_by_backslash (b == 0x5c) t f r refl

  all_by_feed : (v : Bool) → (b == 0x09) ≡ false → (b == 0x0a) ≡ v → all
  all_by_feed true t f = let is : b ≡ 0x0a = grind (arith, nat_tests) in rw is (behind_backslash 0x6e refl refl refl)
  all_by_feed false t f = all_by_return (b == 0x0d) t f refl

  all_by_tab : (v : Bool) → (b == 0x09) ≡ v → all
  all_by_tab true t = let is : b ≡ 0x09 = grind (arith, nat_tests) in rw is (behind_backslash 0x74 refl refl refl)
  all_by_tab false t = all_by_feed (b == 0x0a) t refl

  one_of_cell : all
  one_of_cell = all_by_tab (b == 0x09) refl

pub of_cells : (text : List ℕ) → All IsOfCell (flat_map escaped text)
of_cells [] = All-nil IsOfCell
of_cells (b ∷ text) = All-append IsOfCell (escaped b) (flat_map escaped text) (one_of_cell b) (of_cells text)

some_is : {A : Type 0} (x : Option A) (a : A) → x ≡ Some a → x ≡ None → ⊥
some_is x a s n = absurd (cc)

pub not_null : (text : List ℕ) → flat_map escaped text ≢ 0x5c ∷ 0x4e ∷ []
not_null text e = some_is (read_from false (flat_map escaped text)) text (text_of_tabs text) (ap (read_from false) e)

-- ---- between commas

first_is : (p q : Bool) → (p && q) ≡ true → p ≡ true
first_is true q h = refl
first_is false q h = h

rest_are : (p q : Bool) → (p && q) ≡ true → q ≡ true
rest_are true q h = h
rest_are false q h = absurd (cc)

one_inside : (v : Bool) (b : ℕ) {bytes text : List ℕ} → (b == 0x22) ≡ v → IsInside bytes text → IsInside (doubled b ++ bytes) (b ∷ text)
one_inside true b e inside = let is : b ≡ 0x22 = grind (arith, nat_tests) in rw is (twice inside)
one_inside false b e inside = rw e (one (differ b 0x22 e) inside)

inside_of : (text : List ℕ) → IsInside (flat_map doubled text) text
inside_of [] = nothing
inside_of (b ∷ text) = one_inside (b == 0x22) b refl (inside_of text)

no_plain : (b c : ℕ) → is_plain b ≡ true → is_plain c ≡ false → b ≢ c
no_plain b c h k e = let no : false ≡ true = sym k ∙ sym (ap is_plain e) ∙ h in absurd (cc)

is_data : (b : ℕ) → is_plain b ≡ true → IsTextData b
is_data b h = (no_plain b 0x2c h refl, no_plain b 0x22 h refl, no_plain b 0x0a h refl, no_plain b 0x0d h refl)

are_data : (text : List ℕ) → list_all is_plain text ≡ true → All IsTextData text
are_data [] h = All-nil IsTextData
are_data (b ∷ text) h =
    All-cons IsTextData b text (is_data b (first_is (is_plain b) (list_all is_plain text) h)) (are_data text (rest_are (is_plain b) (list_all is_plain text) h))

last_of : (p q r : Bool) → (if p then false else if q then false else r) ≡ true → (q ≡ false) × (r ≡ true)
last_of true q r h = absurd (cc)
last_of false true r h = absurd (cc)
last_of false false r h = (refl, h)

module _ (none text : List ℕ) where
  bare_is : is_bare none text ≡ true → (pointwise nat_eq text none ≡ false) × (list_all is_plain text ≡ true)
  bare_is h = last_of (length text == 0) (pointwise nat_eq text none) (list_all is_plain text) h

  field_by : (v : Bool) → is_bare none text ≡ v → IsField (if v then text else quoted text) text
  field_by true h = bare (are_data text (bare_is h).1)
  field_by false h = marked (inside_of text)

  pub is_field : IsField (text_cell Csv none text) text
  is_field = field_by (is_bare none text) refl

same_bytes : (bytes : List ℕ) → pointwise nat_eq bytes bytes ≡ true
same_bytes [] = refl
same_bytes (b ∷ bytes) = let e : nat_eq b b ≡ true = grind (arith, nat_tests) in rw e (same_bytes bytes)

module _ (none text : List ℕ) (data_of : All IsTextData none) where
  apart : (v : Bool) → is_bare none text ≡ v → (if v then text else quoted text) ≢ none
  apart true h e = let no : false ≡ true = sym (bare_is none text h).0 ∙ ap (pointwise nat_eq text) (sym e) ∙ same_bytes text in absurd (cc)
  apart false h e = let parts : All IsTextData (quoted text) = subst (All IsTextData) (sym e) data_of in
      (All-head IsTextData 0x22 (flat_map doubled text ++ 0x22 ∷ []) parts).1 refl

  pub not_none : text_cell Csv none text ≢ none
  not_none = apart (is_bare none text) refl
