-- Names have equal units where they have equal bytes.
use Rattle.std.proofs.Common.{◌≡◌, ℕ, ◌/◌, ◌%◌, List, [], ◌∷◌, Bool, true, false, refl, sym, ap, ◌∙◌, arith}
use Rattle.std.specs.Prelude.{nat_lt, ◌&&◌, if◌then◌else◌}
use Rattle.std.proofs.lemmas.Bool.Decides.{nat_tests}
use Rattle.jx_names.specs.inside.KeptNames.{keyed}
use Rattle.jx_names.specs.inside.NameBytes.{are_ascii, by_two, name_bytes}

abbrev head_of : ℕ → List ℕ → ℕ
head_of d [] = d
head_of d (x ∷ xs) = x

abbrev tail_of : List ℕ → List ℕ
tail_of [] = []
tail_of (x ∷ xs) = xs

-- ---- two bytes a unit

same_unit : (u v : ℕ) → u / 256 ≡ v / 256 → u % 256 ≡ v % 256 → u ≡ v
same_unit u v high low = omega (arith, high, low)

same_pairs : (us vs : List ℕ) → by_two us ≡ by_two vs → us ≡ vs
same_pairs [] [] e = refl
same_pairs [] (v ∷ vs) e = absurd cc
same_pairs (u ∷ us) [] e = absurd cc
same_pairs (u ∷ us) (v ∷ vs) e =
    let unit : u ≡ v = same_unit u v (ap (head_of 0) e) (ap (λ (bs : List ℕ). head_of 0 (tail_of bs)) e) in
    let rest : us ≡ vs = same_pairs us vs (ap (λ (bs : List ℕ). tail_of (tail_of bs)) e) in
    ap (λ (x : ℕ). x ∷ us) unit ∙ ap (λ (xs : List ℕ). v ∷ xs) rest

-- ---- ASCII as it stands

bytes_where : (us : List ℕ) (c : Bool) → are_ascii us ≡ c → name_bytes us ≡ (if c then us else 0xff ∷ by_two us)
unfolding name_bytes
bytes_where us c e = ap (λ (b : Bool). if b then us else 0xff ∷ by_two us) e

pub ascii_bytes : (us : List ℕ) → are_ascii us ≡ true → name_bytes us ≡ us
ascii_bytes us e = bytes_where us true e

pub other_bytes : (us : List ℕ) → are_ascii us ≡ false → name_bytes us ≡ 0xff ∷ by_two us
other_bytes us e = bytes_where us false e

-- no ASCII begins as other units do
not_both : (us rest : List ℕ) → are_ascii us ≡ true → us ≡ 0xff ∷ rest → ⊥
not_both [] rest a e = cc
not_both (u ∷ us) rest a e =
    let first : u ≡ 0xff = ap (head_of 0) e in
    first_not u (are_ascii us) a first
  where
    first_not : (u : ℕ) (more : Bool) → (nat_lt u 0x80 && more) ≡ true → u ≡ 0xff → ⊥
    first_not u more a e = grind (arith, nat_tests, a, e)

pub same_bytes : (us vs : List ℕ) → name_bytes us ≡ name_bytes vs → us ≡ vs
same_bytes us vs e = pick (are_ascii us) refl (are_ascii vs) refl
  where
    pick : (c : Bool) → are_ascii us ≡ c → (d : Bool) → are_ascii vs ≡ d → us ≡ vs
    pick true a true b = sym (ascii_bytes us a) ∙ e ∙ ascii_bytes vs b
    pick true a false b = absurd (not_both us (by_two vs) a (sym (ascii_bytes us a) ∙ e ∙ other_bytes vs b))
    pick false a true b = absurd (not_both vs (by_two us) b (sym (ascii_bytes vs b) ∙ sym e ∙ other_bytes us a))
    pick false a false b = same_pairs us vs (ap tail_of (sym (other_bytes us a) ∙ e ∙ other_bytes vs b))

pub same_keyed : (us vs : List ℕ) → keyed us ≡ keyed vs → us ≡ vs
same_keyed us vs e = same_bytes us vs (ap tail_of e)
