-- What a byte of a set does between tokens and in a string.
use Rattle.std.proofs.Common.{◌≡◌, ◌≢◌, ◌⊎◌, inl, inr, ℕ, ◌<◌, Bool, true, false, eqb, List, [], ◌∷◌, Some, refl, sym, ap, subst, arith}
use Rattle.std.specs.Prelude.{◌||◌, not}
use Rattle.std.proofs.lemmas.Bool.Decides.{nat_tests, eqb_tells}
use Rattle.jx_lex.specs.declared.alphabet.class.Class.{Class}
use Rattle.jx_lex.specs.declared.alphabet.class.Class.TheVariants as class
use Rattle.jx_lex.specs.declared.alphabet.mark.MarkKind.TheVariants.{String}
use Rattle.jx_lex.specs.declared.alphabet.state.LexState.{LexState}
use Rattle.jx_lex.specs.declared.alphabet.state.LexState.TheVariants as state
use Rattle.jx_lex.specs.declared.alphabet.state.TokenEnd.TheVariants.{Before}
use Rattle.jx_lex.specs.Classes.{class_at, all_classes, first_with}
use Rattle.jx_lex.specs.Moves.{move, row, go, begin, close}
use Rattle.jx_lex.specs.Uneventful.{is_plain, is_blank, is_escaped}
use Rattle.jx_lex.specs.Whole.{EndsBefore, MayEnd}
use Rattle.jx_lex.proofs.ClassTable.{all_below, all_below-at, code, same_code, implies, implies-use}
use Rattle.jx_lex.proofs.Forward.{is_one_of}
use Rattle.jx_lex.proofs.Running.{plain_keeps}
use Rattle.jx_lex.proofs.StringChars.{escape_classes}
use Rattle.jx_block.specs.inside.Planes.{is_structural, is_stop}

-- this holds of each of these classes
abbrev All : (Class → Type 0) → List Class → Type 0
All P [] = Unit {0}
All P (k ∷ ks) = P k × All P ks

one_of : (P : Class → Type 0) (c : Class) (ks : List Class) → All P ks → is_one_of c ks ≡ true → P c
one_of P c [] all h = absurd cc
one_of P c (k ∷ ks) all h = pick (eqb_tells (code c) (code k)) (λ h'. one_of P c ks all.1 h')
  where
    pick : ((eqb (code c) (code k) ≡ true) × (code c ≡ code k)) ⊎ ((eqb (code c) (code k) ≡ false) × (code c ≢ code k)) → (is_one_of c ks ≡ true → P c) → P c
    pick (inl e) rest = subst P (sym (same_code c k e.1)) all.0
    pick (inr e) rest = rest (subst (λ t. (t || is_one_of c ks) ≡ true) e.0 h)

-- this holds of the class of each byte of a set, where it holds of these classes and each byte of the set has one of them
pub of_set : (p : ℕ → Bool) (P : Class → Type 0) (ks : List Class) → All P ks → all_below 256 (λ b. implies (p b) (is_one_of (first_with all_classes b) ks)) ≡ true
    → (b : ℕ) → b < 256 → p b ≡ true → P (class_at b)
unfolding class_at
of_set p P ks all tested b lt h =
    one_of P (class_at b) ks all (implies-use (p b) _ (all_below-at (λ b. implies (p b) (is_one_of (first_with all_classes b) ks)) 256 tested b lt) h)

-- ---- between tokens

-- the byte is read from between tokens to between tokens
abbrev Stays : Class → Type 0
Stays c = (row state.Gap c).next ≡ Some state.Gap

abbrev structural_classes : List Class
structural_classes = class.OpenArray ∷ class.CloseArray ∷ class.OpenObject ∷ class.CloseObject ∷ class.Colon ∷ class.Comma ∷ []

abbrev stop_classes : List Class
stop_classes = class.Comma ∷ class.CloseArray ∷ class.CloseObject ∷ class.Space ∷ class.Blank ∷ []

structural_small : (b : ℕ) → is_structural b ≡ true → b < 256
structural_small b h = grind (arith, nat_tests)

stop_small : (b : ℕ) → is_stop b ≡ true → b < 256
stop_small b h = grind (arith, nat_tests)

blank_small : (b : ℕ) → is_blank b ≡ true → b < 256
blank_small b h = grind (arith, nat_tests)

escaped_small : (b : ℕ) → is_escaped b ≡ true → b < 256
escaped_small b h = grind (arith, nat_tests)

pub structural_stays : (b : ℕ) → is_structural b ≡ true → (move state.Gap b).next ≡ Some state.Gap
structural_stays b h = of_set is_structural Stays structural_classes (refl, (refl, (refl, (refl, (refl, (refl, tt)))))) refl b (structural_small b h) h

pub stop_stays : (b : ℕ) → is_stop b ≡ true → (move state.Gap b).next ≡ Some state.Gap
stop_stays b h = of_set is_stop Stays stop_classes (refl, (refl, (refl, (refl, (refl, tt))))) refl b (stop_small b h) h

pub blank_goes : (b : ℕ) → is_blank b ≡ true → move state.Gap b ≡ go state.Gap
blank_goes b h = of_set is_blank (λ c. row state.Gap c ≡ go state.Gap) (class.Space ∷ class.Blank ∷ []) (refl, (refl, tt)) refl b (blank_small b h) h

pub quote_begins : move state.Gap 0x22 ≡ begin String state.Str
unfolding class_at
quote_begins = refl

-- a number that may end ends before each of these bytes
pub stop_ends : (s : LexState) → MayEnd s → (b : ℕ) → is_stop b ≡ true → EndsBefore s b
unfolding class_at
stop_ends s ends b h =
    of_set is_stop (λ c. row s c ≡ record (row state.Gap c) { end = Some Before }) stop_classes (ends.0, (ends.1, (ends.2, (ends.3, (ends.4, tt))))) refl b (stop_small b h) h

-- ---- in a string

pub quote_closes : move state.Str 0x22 ≡ close
unfolding class_at
quote_closes = refl

pub backslash_goes : move state.Str 0x5c ≡ go state.Esc
unfolding class_at
backslash_goes = refl

pub plain_goes : (b : ℕ) → is_plain b ≡ true → move state.Str b ≡ go state.Str
plain_goes b h = plain_keeps b (ap not h)

pub escaped_goes : (b : ℕ) → is_escaped b ≡ true → move state.Esc b ≡ go state.Str
escaped_goes b h =
    of_set is_escaped (λ c. row state.Esc c ≡ go state.Str) escape_classes (refl, (refl, (refl, (refl, (refl, (refl, (refl, (refl, tt)))))))) refl b (escaped_small b h) h
