-- The units of a string, a character or an escape at a time.
use Rattle.std.proofs.Common.{◌≡◌, ℕ, ◌<◌, ◌≤◌, List, [], ◌∷◌, ◌++◌, length, drop, append_assoc, Option, None, sym, ap, ◌∙◌, arith}
use Rattle.std.proofs.lemmas.List.{append-nil}
use Rattle.std.specs.Prelude.{slice_index, option_to_list}
use Rattle.jx_index.specs.declared.units.Spelling.TheVariants.{InText, InToken}
use Rattle.jx_index.specs.Units.{char_units, char_more, chars_units}
use Rattle.jx_index.proofs.UnitLaws.{chars_next}
use Rattle.jx_string.specs.declared.spelt.Spelt.{Spelt}
use Rattle.jx_string.specs.inside.Pairs.{units_in}

pub none_left : (pending : Option ℕ) (bytes : List ℕ) → pending ≡ None → length bytes ≡ 0 → option_to_list pending ++ chars_units InText 0 bytes ≡ []
unfolding chars_units
none_left pending [] p h = ap (λ x. option_to_list x ++ []) p
none_left pending (b ∷ bs) p h = absurd (omega arith)

pub one_more : (pending : Option ℕ) (bytes rest left : List ℕ) (spelt : Spelt) → pending ≡ None → 0 < length bytes → rest ≡ drop 1 bytes
    → units_in spelt ≡ char_units InText (slice_index bytes 0) rest → spelt.more ≡ char_more InText (slice_index bytes 0) rest → left ≡ drop spelt.more rest
    → option_to_list pending ++ chars_units InText 0 bytes ≡ spelt.first ∷ (option_to_list spelt.second ++ chars_units InText 0 left)
one_more pending bytes rest left spelt p h r u m l =
    ap (λ x. option_to_list x ++ chars_units InText 0 bytes) p
    ∙ chars_next InText bytes h
    ∙ ap (λ x. char_units InText (slice_index bytes 0) x ++ chars_units InText 0 (drop (char_more InText (slice_index bytes 0) x) x)) (sym r)
    ∙ ap (λ x. x ++ chars_units InText 0 (drop (char_more InText (slice_index bytes 0) rest) rest)) (sym u)
    ∙ ap (λ x. units_in spelt ++ chars_units InText 0 x) (ap (λ k. drop k rest) (sym m) ∙ sym l)

-- ---- of a token

pub token_end : (out bytes all : List ℕ) → length bytes ≤ 0 → out ++ chars_units InToken 0 bytes ≡ all → out ≡ all
unfolding chars_units
token_end out [] all l h = sym (append-nil out) ∙ h
token_end out (b ∷ bytes) all l h = absurd (omega (arith, l))

pub token_more : (out bytes rest left all : List ℕ) (spelt : Spelt) → 0 < length bytes → rest ≡ drop 1 bytes
    → units_in spelt ≡ char_units InToken (slice_index bytes 0) rest → spelt.more ≡ char_more InToken (slice_index bytes 0) rest → left ≡ drop spelt.more rest
    → out ++ chars_units InToken 0 bytes ≡ all → ((out ++ spelt.first ∷ []) ++ option_to_list spelt.second) ++ chars_units InToken 0 left ≡ all
token_more out bytes rest left all spelt p r u m l h =
    ap (λ x. x ++ chars_units InToken 0 left) (append_assoc out (spelt.first ∷ []) (option_to_list spelt.second))
    ∙ append_assoc out (units_in spelt) (chars_units InToken 0 left)
    ∙ ap (λ x. out ++ x) (sym (
    chars_next InToken bytes p
    ∙ ap (λ x. char_units InToken (slice_index bytes 0) x ++ chars_units InToken 0 (drop (char_more InToken (slice_index bytes 0) x) x)) (sym r)
    ∙ ap (λ x. x ++ chars_units InToken 0 (drop (char_more InToken (slice_index bytes 0) rest) rest)) (sym u)
    ∙ ap (λ x. units_in spelt ++ chars_units InToken 0 x) (ap (λ k. drop k rest) (sym m) ∙ sym l)))
    ∙ h
