-- Values of one token stay as they are.
use Rattle.std.proofs.Common.{◌≡◌, ℕ, zero, suc, ◌+◌, ◌-◌, ◌<◌, ◌≤◌, List, [], ◌∷◌, ◌++◌, length, get_or, drop, Bool, true, false, refl, sym, ap, ◌∙◌, arith}
use Rattle.std.specs.Prelude.{◌&&◌, ◌==◌, if◌then◌else◌, not, slice_range}
use Rattle.std.specs.List.{list_all}
use Rattle.std.proofs.Math.Seq.{drop-cons}
use Rattle.std.proofs.lemmas.List.{drop_all}
use Rattle.std.proofs.lemmas.List.Folds.{drop_split}
use Rattle.jx_compact.specs.declared.place.Place.{Place}
use Rattle.jx_compact.specs.declared.place.Place.TheVariants.{Between, Inside}
use Rattle.jx_compact.specs.Compact.{compact_from, is_no_blank, kept, next, place_behind}
use Rattle.jx_compact.specs.inside.Alone.{is_bare, is_inner}

first_is : (p q : Bool) → (p && q) ≡ true → p ≡ true
first_is true q h = refl
first_is false q h = h

rest_are : (p q : Bool) → (p && q) ≡ true → q ≡ true
rest_are true q h = h
rest_are false q h = absurd (cc)

-- ---- outside of strings

no_mark : (b : ℕ) → is_bare b ≡ true → (b == 0x22) ≡ false
no_mark b h = pick (b == 0x22) refl h
  where
    pick : (m : Bool) → (b == 0x22) ≡ m → (if m then false else is_no_blank b) ≡ true → (b == 0x22) ≡ false
    pick true e g = absurd (cc)
    pick false e g = e

stays_bare : (b : ℕ) → is_bare b ≡ true → is_no_blank b ≡ true
stays_bare b h = pick (b == 0x22) h
  where
    pick : (m : Bool) → (if m then false else is_no_blank b) ≡ true → is_no_blank b ≡ true
    pick true g = absurd (cc)
    pick false g = g

kept_bare : (b : ℕ) → is_bare b ≡ true → kept Between b ≡ b ∷ []
kept_bare b h = ap (λ (m : Bool). if m then b ∷ [] else []) (stays_bare b h)

next_bare : (b : ℕ) → is_bare b ≡ true → next Between b ≡ Between
next_bare b h = ap (λ (m : Bool). if m then Inside else Between) (no_mark b h)

pub bare_stay : (bytes : List ℕ) → list_all is_bare bytes ≡ true → compact_from Between bytes ≡ bytes
bare_stay [] h = refl
bare_stay (b ∷ bytes) h =
    let one = first_is (is_bare b) (list_all is_bare bytes) h in
    ap (λ (xs : List ℕ). xs ++ compact_from (next Between b) bytes) (kept_bare b one)
    ∙ ap (λ (p : Place). b ∷ compact_from p bytes) (next_bare b one)
    ∙ ap (λ (xs : List ℕ). b ∷ xs) (bare_stay bytes (rest_are (is_bare b) (list_all is_bare bytes) h))

pub bare_place : (bytes : List ℕ) → list_all is_bare bytes ≡ true → place_behind Between bytes ≡ Between
bare_place [] h = refl
bare_place (b ∷ bytes) h =
    ap (λ (p : Place). place_behind p bytes) (next_bare b (first_is (is_bare b) (list_all is_bare bytes) h))
    ∙ bare_place bytes (rest_are (is_bare b) (list_all is_bare bytes) h)

-- ---- in a string

next_inner : (b : ℕ) → is_inner b ≡ true → next Inside b ≡ Inside
next_inner b h = pick (b == 0x22) (b == 0x5c) refl refl h
  where
    pick : (m n : Bool) → (b == 0x22) ≡ m → (b == 0x5c) ≡ n → (if m then false else not n) ≡ true → next Inside b ≡ Inside
    pick true n e f g = absurd (cc)
    pick false true e f g = absurd (cc)
    pick false false e f g = rw (e, f) refl

inner_stay : (bytes : List ℕ) → list_all is_inner bytes ≡ true → compact_from Inside (bytes ++ 0x22 ∷ []) ≡ bytes ++ 0x22 ∷ []
inner_stay [] h = refl
inner_stay (b ∷ bytes) h =
    ap (λ (p : Place). b ∷ compact_from p (bytes ++ 0x22 ∷ [])) (next_inner b (first_is (is_inner b) (list_all is_inner bytes) h))
    ∙ ap (λ (xs : List ℕ). b ∷ xs) (inner_stay bytes (rest_are (is_inner b) (list_all is_inner bytes) h))

inner_place : (bytes : List ℕ) → list_all is_inner bytes ≡ true → place_behind Inside (bytes ++ 0x22 ∷ []) ≡ Between
inner_place [] h = refl
inner_place (b ∷ bytes) h =
    ap (λ (p : Place). place_behind p (bytes ++ 0x22 ∷ [])) (next_inner b (first_is (is_inner b) (list_all is_inner bytes) h))
    ∙ inner_place bytes (rest_are (is_inner b) (list_all is_inner bytes) h)

-- ---- a whole string

module _ (bytes : List ℕ) (some : 2 ≤ length bytes) (first : get_or bytes 0 0 ≡ 0x22) (last : get_or bytes (length bytes - 1) 0 ≡ 0x22) where
  abbrev inner : List ℕ
  inner = slice_range bytes 1 (length bytes - 1)

  last_one : drop (length bytes - 1) bytes ≡ 0x22 ∷ []
  last_one =
      drop-cons bytes (length bytes - 1) 0 (omega (arith, some))
      ∙ ap (λ (b : ℕ). b ∷ drop (suc (length bytes - 1)) bytes) last
      ∙ ap (λ (xs : List ℕ). 0x22 ∷ xs) (drop_all (suc (length bytes - 1)) bytes (omega (arith, some)))

  bytes_are : bytes ≡ 0x22 ∷ (inner ++ 0x22 ∷ [])
  bytes_are =
      drop-cons bytes 0 0 (omega (arith, some))
      ∙ ap (λ (b : ℕ). b ∷ drop 1 bytes) first
      ∙ ap (λ (xs : List ℕ). 0x22 ∷ xs) (drop_split bytes 1 (length bytes - 1) (omega (arith, some)))
      ∙ ap (λ (xs : List ℕ). 0x22 ∷ (inner ++ xs)) last_one

  pub string_stays : list_all is_inner inner ≡ true → compact_from Between bytes ≡ bytes
  string_stays h = ap (compact_from Between) bytes_are ∙ ap (λ (xs : List ℕ). 0x22 ∷ xs) (inner_stay inner h) ∙ sym bytes_are

  pub string_place : list_all is_inner inner ≡ true → place_behind Between bytes ≡ Between
  string_place h = ap (place_behind Between) bytes_are ∙ inner_place inner h
