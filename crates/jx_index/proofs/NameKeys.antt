-- Names whose keys are apart are not repeated.
use Rattle.std.proofs.Common.{◌≡◌, ℕ, suc, ◌<◌, List, [], ◌∷◌, length, map, get_or, drop, Bool, true, false, cond, None, refl, sym, ap, ◌∙◌, arith}
use Rattle.std.specs.Prelude.{filter}
use Rattle.std.specs.Ordering.{nat_cmp, is_eq}
use Rattle.std.specs.Cmp.Lexicographic.{slice_cmp}
use Rattle.std.proofs.lemmas.Map.Text.{is_eq-slice_cmp}
use Rattle.std.proofs.lemmas.List.{get_or-map, length-map}
use Rattle.std.proofs.lemmas.Slice.Eq.{bytes_eq-Decides}
use Rattle.jx_summary.specs.declared.span.Span.{Span}
use Rattle.jx_index.specs.Repeats.{IsAmong, has_units, IsLeast}
use Rattle.jx_index.specs.Units.{chars_units, units_at}
use Rattle.jx_index.specs.declared.units.Spelling.TheVariants.{InText}
use Rattle.jx_index.specs.inside.NameKeys.{key_behind, key_in, AreApart}
use Rattle.jx_index.specs.inside.NameLists.{IsRepeatedName}

module _ {A : Type 0} (spare : A) (p : A → Bool) where
  record Place (xs : List A) : Type 0 where
    at : ℕ
    within : at < length xs
    passes : p (get_or xs at spare) ≡ true

  pub record TwoPlaces (xs : List A) : Type 0 where
    pub first : ℕ
    pub second : ℕ
    pub ordered : first < second
    pub within : second < length xs
    pub first_passes : p (get_or xs first spare) ≡ true
    pub second_passes : p (get_or xs second spare) ≡ true

  place_of : (x : A) (xs : List A) → IsAmong x (filter p xs) → Place xs
  place_of x [] h = absurd h
  place_of x (y ∷ ys) h = pick (p y) refl h (λ k. place_of x ys k)
    where
      pick : (c : Bool) → p y ≡ c → IsAmong x (cond c (y ∷ filter p ys) (filter p ys)) → (IsAmong x (filter p ys) → Place ys) → Place (y ∷ ys)
      pick true e h rec = record { at = 0; within = omega arith; passes = e }
      pick false e h rec = let r = rec h in let low = r.within in record { at = suc r.at; within = omega (arith, low); passes = r.passes }

  pub two_places : (x : A) (xs : List A) → IsAmong x (drop 1 (filter p xs)) → TwoPlaces xs
  two_places x [] h = absurd h
  two_places x (y ∷ ys) h = pick (p y) refl h (λ k. two_places x ys k)
    where
      pick : (c : Bool) → p y ≡ c → IsAmong x (drop 1 (cond c (y ∷ filter p ys) (filter p ys))) → (IsAmong x (drop 1 (filter p ys)) → TwoPlaces ys) → TwoPlaces (y ∷ ys)
      pick true e h rec =
          let r = place_of x ys h in
          let low = r.within in
          record { first = 0; second = suc r.at; ordered = omega arith; within = omega (arith, low); first_passes = e; second_passes = r.passes }
      pick false e h rec =
          let r = rec h in
          let low = r.within in
          let up = r.ordered in
          record { first = suc r.first; second = suc r.second; ordered = omega (arith, up); within = omega (arith, low); first_passes = r.first_passes; second_passes = r.second_passes }

pub same_units : (x units : List ℕ) → is_eq (slice_cmp nat_cmp x units) ≡ true → x ≡ units
same_units x units h = (bytes_eq-Decides x units).0 (sym (is_eq-slice_cmp x units) ∙ h)

-- so no name is repeated
pub none_repeated : (text : List ℕ) (spare : Span) (names : List Span) → AreApart (map (key_in text) names) → IsLeast (IsRepeatedName text names) None
none_repeated text spare names apart = λ at x.
    let p = has_units (units_at text) x.units in
    let t = two_places spare p x.name names x.behind in
    let low = t.ordered in
    let within = t.within in
    let key = key_in text in
    let first : t.first < length names = omega (arith, low, within) in
    let same : units_at text (get_or names t.first spare) ≡ units_at text (get_or names t.second spare) = same_units _ x.units t.first_passes ∙ sym (same_units _ x.units t.second_passes) in
    apart t.first t.second low (let long = length-map names key in omega (arith, within, long))
    (get_or-map key names t.first spare 0 first ∙ ap (key_behind 0) same ∙ sym (get_or-map key names t.second spare 0 within))

-- fewer than two are apart
pub one_apart : (text : List ℕ) (names : List Span) → length names < 2 → AreApart (map (key_in text) names)
one_apart text names few i j low within = let long = length-map names (key_in text) in absurd (omega (arith, few, low, within, long))

-- where no byte is left, the key is whole
pub none_left : (key : ℕ) → key ≡ key_behind key (chars_units InText 0 [])
unfolding chars_units
none_left key = refl
