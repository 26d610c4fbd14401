-- Names stay as they are where bytes come behind theirs, and where bytes behind them go.
use Rattle.std.proofs.Common.{◌≡◌, ℕ, zero, suc, ◌-◌, ◌≤◌, List, [], ◌∷◌, ◌++◌, length, take, drop, Option, None, Some, refl, sym, ap, ◌∙◌, arith}
use Rattle.std.specs.Prelude.{option_to_list}
use Rattle.std.proofs.lemmas.List.{drop-append-le, length-append, length-drop, length-take-le, take-append-drop, take-append-le}
use Rattle.jx_summary.specs.declared.span.Span.{Span}
use Rattle.jx_index.specs.Units.{units_at}
use Rattle.jx_index.specs.inside.NameLists.{start_at}
use Rattle.jx_names.specs.declared.name_bytes.Name.{Name}
use Rattle.jx_names.specs.inside.KeptNames.{AreKept, IsKeptName, IsKeptToo, bytes_in, cut_back, end_from, keyed, keyed_in, start_of}
use Rattle.jx_names.proofs.Alike.{AreAlike}

-- ---- one name

bytes_stay : (bytes more : List ℕ) (name : Name) → name.from ≤ name.to → name.to ≤ length bytes → bytes_in (bytes ++ more) name ≡ bytes_in bytes name
bytes_stay bytes more name order within =
    ap (take (name.to - name.from)) (drop-append-le name.from bytes more (omega (arith, order, within)))
    ∙ take-append-le (name.to - name.from) (drop name.from bytes) more (let e : length (drop name.from bytes) ≡ length bytes - name.from = length-drop name.from bytes in omega (arith, e, order, within))

module _ (text bytes : List ℕ) (low : ℕ) (s : Span) (name : Name) (h : IsKeptName text bytes low s name) where
  name_stays : (more : List ℕ) → IsKeptName text (bytes ++ more) low s name
  name_stays more =
      let stay = bytes_stay bytes more name h.order h.within in
      let within = h.within in
      let long = length-append bytes more in
      record { at = h.at; above = h.above; order = h.order; within = omega (arith, within, long); is_keyed = ap (λ (bs : List ℕ). name.key ∷ bs) stay ∙ h.is_keyed }

  name_cut : (m : ℕ) → m ≤ length bytes → name.to ≤ m → IsKeptName text (take m bytes) low s name
  name_cut m fits le =
      let long : length (take m bytes) ≡ m = length-take-le m bytes fits in
      let inside : name.to ≤ length (take m bytes) = omega (arith, le, long) in
      let stay : bytes_in bytes name ≡ bytes_in (take m bytes) name =
      ap (λ (xs : List ℕ). bytes_in xs name) (sym (take-append-drop m bytes)) ∙ bytes_stay (take m bytes) (drop m bytes) name h.order inside in
      record { at = h.at; above = h.above; order = h.order; within = inside; is_keyed = ap (λ (bs : List ℕ). name.key ∷ bs) (sym stay) ∙ h.is_keyed }

  name_low : (other : ℕ) → other ≤ low → IsKeptName text bytes other s name
  name_low other le =
      let above = h.above in
      record { at = h.at; above = omega (arith, le, above); order = h.order; within = h.within; is_keyed = h.is_keyed }

-- ---- where the bytes of names end

module _ (text bytes : List ℕ) where
  ends_low : (low : ℕ) (spans : List Span) (names : List Name) → AreKept text bytes low spans names → low ≤ end_from low names
  ends_low low [] [] h = omega arith
  ends_low low [] (n ∷ names) h = absurd h
  ends_low low (s ∷ spans) [] h = absurd h
  ends_low low (s ∷ spans) (n ∷ names) h = let here = h.0.above in let rest = ends_low n.to spans names h.1 in omega (arith, here, rest)

  pub ends_within : (low : ℕ) (spans : List Span) (names : List Name) → low ≤ length bytes → AreKept text bytes low spans names → end_from low names ≤ length bytes
  ends_within low [] [] le h = le
  ends_within low [] (n ∷ names) le h = absurd h
  ends_within low (s ∷ spans) [] le h = absurd h
  ends_within low (s ∷ spans) (n ∷ names) le h = ends_within n.to spans names h.0.within h.1

  ends_first : (k low : ℕ) (spans : List Span) (names : List Name) → AreKept text bytes low spans names → end_from low (take k names) ≤ end_from low names
  ends_first zero low spans names h = ends_low low spans names h
  ends_first (suc k) low [] [] h = omega arith
  ends_first (suc k) low [] (n ∷ names) h = absurd h
  ends_first (suc k) low (s ∷ spans) [] h = absurd h
  ends_first (suc k) low (s ∷ spans) (n ∷ names) h = ends_first k n.to spans names h.1

  -- ---- all names

  pub all_stay : (more : List ℕ) (low : ℕ) (spans : List Span) (names : List Name) → AreKept text bytes low spans names → AreKept text (bytes ++ more) low spans names
  all_stay more low [] [] h = tt
  all_stay more low [] (n ∷ names) h = absurd h
  all_stay more low (s ∷ spans) [] h = absurd h
  all_stay more low (s ∷ spans) (n ∷ names) h = (name_stays text bytes low s n h.0 more, all_stay more n.to spans names h.1)

  all_cut : (m low : ℕ) (spans : List Span) (names : List Name) → m ≤ length bytes → end_from low names ≤ m → AreKept text bytes low spans names → AreKept text (take m bytes) low spans names
  all_cut m low [] [] fits le h = tt
  all_cut m low [] (n ∷ names) fits le h = absurd h
  all_cut m low (s ∷ spans) [] fits le h = absurd h
  all_cut m low (s ∷ spans) (n ∷ names) fits le h =
      let rest = ends_low n.to spans names h.1 in (name_cut text bytes low s n h.0 m fits (omega (arith, rest, le)), all_cut m n.to spans names fits le h.1)

  pub first_kept : (k low : ℕ) (spans : List Span) (names : List Name) → AreKept text bytes low spans names → AreKept text bytes low (take k spans) (take k names)
  first_kept zero low spans names h = tt
  first_kept (suc k) low [] [] h = tt
  first_kept (suc k) low [] (n ∷ names) h = absurd h
  first_kept (suc k) low (s ∷ spans) [] h = absurd h
  first_kept (suc k) low (s ∷ spans) (n ∷ names) h = (h.0, first_kept k n.to spans names h.1)

  pub one_more : (low : ℕ) (spans : List Span) (names : List Name) (s : Option Span) (n : Option Name) → AreKept text bytes low spans names → IsKeptToo text bytes (end_from low names) s n
      → AreKept text bytes low (spans ++ option_to_list s) (names ++ option_to_list n)
  one_more low [] [] None None h w = tt
  one_more low [] [] (Some s) (Some n) h w = (w, tt)
  one_more low [] [] None (Some n) h w = absurd w
  one_more low [] [] (Some s) None h w = absurd w
  one_more low [] (b ∷ names) s n h w = absurd h
  one_more low (a ∷ spans) [] s n h w = absurd h
  one_more low (a ∷ spans) (b ∷ names) s n h w = (h.0, one_more b.to spans names s n h.1 w)

  pub same_long : (low : ℕ) (spans : List Span) (names : List Name) → AreKept text bytes low spans names → length spans ≡ length names
  same_long low [] [] h = refl
  same_long low [] (n ∷ names) h = absurd h
  same_long low (s ∷ spans) [] h = absurd h
  same_long low (s ∷ spans) (n ∷ names) h = ap suc (same_long n.to spans names h.1)

  pub are_alike : (low : ℕ) (spans : List Span) (names : List Name) → AreKept text bytes low spans names → AreAlike (λ (s : Span). keyed (units_at text s)) (keyed_in bytes) start_at start_of spans names
  are_alike low [] [] h = tt
  are_alike low [] (n ∷ names) h = absurd h
  are_alike low (s ∷ spans) [] h = absurd h
  are_alike low (s ∷ spans) (n ∷ names) h = ((sym h.0.is_keyed, ap (λ (at : ℕ). let o : Option ℕ = Some at in o) (sym h.0.at)), are_alike n.to spans names h.1)

  -- ---- what is left where a container ends

  pub cut_kept : (spans : List Span) (names : List Name) (name : Option Name) → AreKept text bytes 0 spans names → AreKept text (cut_back bytes names name) 0 spans names
  cut_kept spans names (Some n) h = h
  cut_kept spans names None h = all_cut (end_from 0 names) 0 spans names (ends_within 0 spans names (omega arith) h) (omega arith) h

  pub cut_too : (k : ℕ) (spans : List Span) (names : List Name) (s : Option Span) (name : Option Name) → AreKept text bytes 0 spans names → IsKeptToo text bytes (end_from 0 names) s name
      → IsKeptToo text (cut_back bytes (take k names) name) (end_from 0 (take k names)) s name
  cut_too k spans names None None h w = tt
  cut_too k spans names (Some s) (Some n) h w = name_low text bytes (end_from 0 names) s n w (end_from 0 (take k names)) (ends_first k 0 spans names h)
  cut_too k spans names None (Some n) h w = absurd w
  cut_too k spans names (Some s) None h w = absurd w
