-- The characters of units, one by one.
use Rattle.std.proofs.Common.{◌≡◌, ℕ, List, [], ◌∷◌, true, false, get_or, arith, ap, ◌∙◌}
use Rattle.std.specs.Prelude.{Option, Some, None}
use Rattle.std.specs.Char.Utf16.{is_high_surrogate, is_low_surrogate, lone_unit_char, surrogate_pair_char, utf16_chars}
use Rattle.std.proofs.lemmas.Bool.Decides.{nat_tests}
use Rattle.std.proofs.lemmas.Str.{utf16_chars_lone, utf16_chars_pair}
use Rattle.std.proofs.str.Utf16.{IsPair}

no_first : (u v : ℕ) → is_high_surrogate u ≡ false → IsPair u v → ⊥
no_first u v h pair = let low = pair.0 in let high = pair.1 in grind (arith, nat_tests)

no_second : (u v : ℕ) → is_low_surrogate v ≡ false → IsPair u v → ⊥
no_second u v h pair = let low = pair.2 in let high = pair.3 in grind (arith, nat_tests)

are_pair : (u v : ℕ) → is_high_surrogate u ≡ true → is_low_surrogate v ≡ true → IsPair u v
are_pair u v h k = (grind (arith, nat_tests), grind (arith, nat_tests), grind (arith, nat_tests), grind (arith, nat_tests))

half_is_none : (u : ℕ) → is_high_surrogate u ≡ true → lone_unit_char u ≡ None
half_is_none u h = grind (arith, nat_tests)

module _ (all : List ℕ) (u : ℕ) (us : List ℕ) (e : all ≡ u ∷ us) where
  -- a unit that begins no pair
  pub alone_first : is_high_surrogate u ≡ false → utf16_chars all ≡ lone_unit_char u ∷ utf16_chars us
  alone_first h = ap utf16_chars e ∙ utf16_chars_lone u us (no_first u (get_or us 0 0) h)

  -- half of a pair, and nothing behind it
  pub half_last : is_high_surrogate u ≡ true → us ≡ [] → utf16_chars all ≡ None ∷ utf16_chars us
  half_last h f =
      ap utf16_chars e
      ∙ utf16_chars_lone u us (no_second u (get_or us 0 0) (ap (λ (x : List ℕ). is_low_surrogate (get_or x 0 0)) f))
      ∙ ap (λ (c : Option ℕ). c ∷ utf16_chars us) (half_is_none u h)

  module _ (v : ℕ) (vs : List ℕ) (f : us ≡ v ∷ vs) where
    -- half of a pair before another unit
    pub half_before : is_high_surrogate u ≡ true → is_low_surrogate v ≡ false → utf16_chars all ≡ None ∷ utf16_chars us
    half_before h k =
        ap utf16_chars e
        ∙ utf16_chars_lone u us (no_second u (get_or us 0 0) (ap (λ (x : List ℕ). is_low_surrogate (get_or x 0 0)) f ∙ k))
        ∙ ap (λ (c : Option ℕ). c ∷ utf16_chars us) (half_is_none u h)

    -- a pair
    pub pair_first : is_high_surrogate u ≡ true → is_low_surrogate v ≡ true → utf16_chars all ≡ Some (surrogate_pair_char u v) ∷ utf16_chars vs
    pair_first h k = ap utf16_chars (e ∙ ap (λ (x : List ℕ). u ∷ x) f) ∙ utf16_chars_pair u v vs (are_pair u v h k)
