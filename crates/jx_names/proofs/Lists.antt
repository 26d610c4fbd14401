-- Names whose keys are apart are not repeated.
use Rattle.std.proofs.Common.{◌≡◌, ℕ, suc, ◌-◌, ◌<◌, List, [], ◌∷◌, length, map, get_or, None, Some, sym, ap, subst, ◌∙◌, arith}
use Rattle.std.specs.Prelude.{slice_get}
use Rattle.std.proofs.lemmas.List.{get_or-map, length-map}
use Rattle.std.proofs.lemmas.Option.{slice_get_past}
use Rattle.jx_index.specs.Repeats.{IsLeast, has_units}
use Rattle.jx_index.specs.inside.NameKeys.{AreApart}
use Rattle.jx_index.proofs.NameKeys.{same_units, two_places}
use Rattle.jx_names.specs.declared.name_bytes.Name.{Name}
use Rattle.jx_names.specs.inside.KeptNames.{IsRepeatedKept, end_from, keyed_in}
use Rattle.jx_names.specs.inside.ApartKeys.{key_of}
use Rattle.jx_names.proofs.Apart.{no_name}

abbrev first_of : List ℕ → ℕ
first_of [] = 0
first_of (key ∷ bytes) = key

pub none_repeated : (bytes : List ℕ) (names : List Name) → AreApart (map key_of names) → IsLeast (IsRepeatedKept bytes names) None
none_repeated bytes names apart = λ at x.
    let t = two_places no_name (has_units (keyed_in bytes) x.units) x.name names x.behind in
    let low = t.ordered in
    let within = t.within in
    let first : t.first < length names = omega (arith, low, within) in
    let same : keyed_in bytes (get_or names t.first no_name) ≡ keyed_in bytes (get_or names t.second no_name) =
    same_units _ x.units t.first_passes ∙ sym (same_units _ x.units t.second_passes) in
    apart t.first t.second low (let long = length-map names key_of in omega (arith, within, long))
    (get_or-map key_of names t.first no_name 0 first ∙ ap first_of same ∙ sym (get_or-map key_of names t.second no_name 0 within))

-- fewer than two are apart
pub one_apart : (names : List Name) → length names < 2 → AreApart (map key_of names)
one_apart names few i j low within = let long = length-map names key_of in absurd (omega (arith, few, low, within, long))

-- ---- the last name

-- the bytes end where those of the last name do
pub ends_last : (low : ℕ) (names : List Name) (x : Name) → slice_get names (length names - 1) ≡ Some x → x.to ≡ end_from low names
ends_last low [] x e = let none = slice_get_past {X = Name} [] (length {A = Name} [] - 1) (omega arith) in absurd (cc (none, e))
ends_last low (n ∷ []) x e =
    let first : length (n ∷ []) - 1 ≡ 0 = omega arith in
    let here : slice_get (n ∷ []) 0 ≡ Some x = subst (λ (i : ℕ). slice_get (n ∷ []) i ≡ Some x) first e in
    let same : n ≡ x = cc in
    ap (λ (y : Name). y.to) (sym same)
ends_last low (n ∷ m ∷ names) x e =
    let next : length (n ∷ m ∷ names) - 1 ≡ suc (length (m ∷ names) - 1) = omega arith in
    ends_last n.to (m ∷ names) x (subst (λ (i : ℕ). slice_get (n ∷ m ∷ names) i ≡ Some x) next e)
