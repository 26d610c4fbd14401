-- What is compact, byte by byte.
use Rattle.std.proofs.Common.{◌≡◌, ℕ, ◌+◌, ◌<◌, ◌≤◌, List, [], ◌∷◌, ◌++◌, length, get_or, drop, Bool, true, false, add-one, append_assoc, length-append, sym, ◌∙◌, ap, subst, refl}
use Rattle.std.proofs.Math.Seq.{drop-cons}
use Rattle.std.proofs.lemmas.List.{drop_all}
use Rattle.std.proofs.lemmas.Bool.{eqb-true}
use Rattle.std.proofs.lemmas.List.Elements.{All-cons, All-nil}
use Rattle.std.specs.Prelude.{if◌then◌else◌, ◌==◌, All}
use Rattle.jx_compact.specs.declared.place.Place.{Place}
use Rattle.jx_compact.specs.declared.place.Place.TheVariants.{Between, Inside, Escaped}
use Rattle.jx_compact.specs.Compact.{compact_from, is_kept, is_no_blank, kept, next, place_behind, HasPlainStrings, IsNoControl}

-- one byte more
pub one_more : (place : Place) (out rest : List ℕ) (b : ℕ)
    → (out ++ kept place b) ++ compact_from (next place b) rest ≡ out ++ compact_from place (b ∷ rest)
one_more place out rest b = append_assoc out (kept place b) (compact_from (next place b) rest)

-- behind a byte that is left out stands the next one where it stood
stays : (place : Place) (b : ℕ) → is_kept place b ≡ false → next place b ≡ place
stays Between b q = pick (b == 0x22) refl
  where
    pick : (m : Bool) → (b == 0x22) ≡ m → (if m then Inside else Between) ≡ Between
    pick false e = refl
    pick true e =
        let h : true ≡ false = subst (λ (x : ℕ). is_kept Between x ≡ false) (eqb-true b 0x22 e) q in
        absurd (cc)
stays Inside b q = absurd (cc)
stays Escaped b q = absurd (cc)

pub again : (place : Place) (bytes : List ℕ) → compact_from place (compact_from place bytes) ≡ compact_from place bytes
again place [] = refl
again place (b ∷ bytes) = pick (is_kept place b) refl (again (next place b) bytes)
  where
    rest : List ℕ
    rest = compact_from (next place b) bytes

    pick : (m : Bool) → is_kept place b ≡ m → compact_from (next place b) rest ≡ rest
        → compact_from place ((if m then b ∷ [] else []) ++ rest) ≡ (if m then b ∷ [] else []) ++ rest
    pick true q h = ap (λ (m : Bool). (if m then b ∷ [] else []) ++ compact_from (next place b) rest) q ∙ ap (λ (r : List ℕ). b ∷ r) h
    pick false q h = subst (λ (p : Place). compact_from p rest ≡ rest) (stays place b q) h

pub goes_on : (place : Place) (front back : List ℕ)
    → compact_from place (front ++ back) ≡ compact_from place front ++ compact_from (place_behind place front) back
goes_on place [] back = refl
goes_on place (b ∷ front) back =
    ap (λ (r : List ℕ). kept place b ++ r) (goes_on (next place b) front back)
    ∙ sym (append_assoc (kept place b) (compact_from (next place b) front) (compact_from (place_behind (next place b) front) back))

-- ---- lines

no_blank : (b : ℕ) → is_no_blank b ≡ true → IsNoControl b
no_blank b q = (
  λ (e : b ≡ 0x09). let h : false ≡ true = subst (λ (x : ℕ). is_no_blank x ≡ true) e q in cc,
  λ (e : b ≡ 0x0a). let h : false ≡ true = subst (λ (x : ℕ). is_no_blank x ≡ true) e q in cc,
  λ (e : b ≡ 0x0d). let h : false ≡ true = subst (λ (x : ℕ). is_no_blank x ≡ true) e q in cc,
)

pub one_line : (place : Place) (bytes : List ℕ) → HasPlainStrings place bytes → All IsNoControl (compact_from place bytes)
one_line place [] h = All-nil IsNoControl
one_line Between (b ∷ bytes) h = pick (is_no_blank b) refl (one_line (next Between b) bytes h)
  where
    rest : List ℕ
    rest = compact_from (next Between b) bytes

    pick : (m : Bool) → is_no_blank b ≡ m → All IsNoControl rest → All IsNoControl ((if m then b ∷ [] else []) ++ rest)
    pick true q r = All-cons IsNoControl b rest (no_blank b q) r
    pick false q r = r
one_line Inside (b ∷ bytes) h = All-cons IsNoControl b (compact_from (next Inside b) bytes) h.0 (one_line (next Inside b) bytes h.1)
one_line Escaped (b ∷ bytes) h = All-cons IsNoControl b (compact_from (next Escaped b) bytes) h.0 (one_line (next Escaped b) bytes h.1)

-- ---- how many bytes stay

-- of one byte and those behind it
pub next_bytes : (place : Place) (bytes : List ℕ) (i : ℕ) → i < length bytes
    → kept place (get_or bytes i 0) ++ compact_from (next place (get_or bytes i 0)) (drop (i + 1) bytes) ≡ compact_from place (drop i bytes)
next_bytes place bytes i h = ap (λ (k : ℕ). kept place (get_or bytes i 0) ++ compact_from (next place (get_or bytes i 0)) (drop k bytes)) (add-one i) ∙ sym (ap (λ (r : List ℕ). compact_from place r) (drop-cons bytes i 0 h))

pub next_len : (place : Place) (bytes : List ℕ) (i : ℕ) → i < length bytes
    → length (kept place (get_or bytes i 0)) + length (compact_from (next place (get_or bytes i 0)) (drop (i + 1) bytes)) ≡ length (compact_from place (drop i bytes))
next_len place bytes i h =
    sym (length-append (kept place (get_or bytes i 0)) (compact_from (next place (get_or bytes i 0)) (drop (i + 1) bytes))) ∙ ap (λ (x : List ℕ). length x) (next_bytes place bytes i h)

pub none_more : (place : Place) (bytes : List ℕ) (i : ℕ) → length bytes ≤ i → compact_from place (drop i bytes) ≡ []
none_more place bytes i h = ap (λ (r : List ℕ). compact_from place r) (drop_all i bytes h)
