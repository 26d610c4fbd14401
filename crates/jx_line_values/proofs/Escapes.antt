-- Bytes that stand for themselves between tabs.
use Rattle.std.proofs.Common.{◌≡◌, ℕ, List, [], ◌∷◌, ◌++◌, Bool, true, false, refl, ap, ◌∙◌, arith}
use Rattle.std.specs.Prelude.{◌&&◌, flat_map}
use Rattle.std.specs.List.{list_all}
use Rattle.std.proofs.lemmas.Bool.Decides.{nat_tests}
use Rattle.jx_line_values.specs.Cells.{escaped}
use Rattle.jx_line_values.specs.inside.Adding.{is_escaped_as_itself}

first_is : (p q : Bool) → (p && q) ≡ true → p ≡ true
first_is true q h = refl
first_is false q h = h

rest_are : (p q : Bool) → (p && q) ≡ true → q ≡ true
rest_are true q h = h
rest_are false q h = absurd (cc)

one_itself : (byte : ℕ) → is_escaped_as_itself byte ≡ true → escaped byte ≡ byte ∷ []
one_itself byte h = grind (arith, nat_tests)

pub themselves : (text : List ℕ) → list_all is_escaped_as_itself text ≡ true → flat_map escaped text ≡ text
themselves [] h = refl
themselves (byte ∷ text) h =
    ap (λ (xs : List ℕ). xs ++ flat_map escaped text) (one_itself byte (first_is (is_escaped_as_itself byte) (list_all is_escaped_as_itself text) h))
    ∙ ap (λ (xs : List ℕ). byte ∷ xs) (themselves text (rest_are (is_escaped_as_itself byte) (list_all is_escaped_as_itself text) h))
