-- Names that are ASCII without an escape stand for themselves.
use Rattle.std.proofs.Common.{◌≡◌, ◌≢◌, ℕ, zero, suc, ◌+◌, ◌-◌, ◌<◌, ◌≤◌, List, [], ◌∷◌, ◌++◌, length, take, drop, get_or, Bool, true, false, not, refl, sym, ap, subst, ◌∙◌, arith, drop-cons}
use Rattle.std.specs.Prelude.{nat_lt, ◌==◌, ◌&&◌, slice_index, slice_range}
use Rattle.std.specs.Slice.Scan.{HoldsNowhere, IsFirstPlace}
use Rattle.std.proofs.lemmas.Bool.Decides.{nat_tests}
use Rattle.std.proofs.lemmas.List.{take-take}
use Rattle.std.proofs.Math.Seq.{take-append-add}
use Rattle.jx_lex.proofs.Slices.{slice-length}
use Rattle.jx_run.proofs.SeqReading.{slice-drop}
use Rattle.jx_lex.specs.Uneventful.{is_plain}
use Rattle.jx_index.specs.declared.units.Spelling.TheVariants.{InText}
use Rattle.jx_index.specs.Units.{between_marks, chars_units}
use Rattle.jx_string.specs.Texts.{string_units}
use Rattle.jx_names.specs.inside.NameBytes.{are_ascii, name_bytes}
use Rattle.jx_names.proofs.Spellings.{ascii_bytes}

plain_unit : (b : ℕ) (bytes : List ℕ) → b < 0x80 → b ≢ 0x5c → chars_units InText 0 (b ∷ bytes) ≡ b ∷ chars_units InText 0 bytes
unfolding chars_units
plain_unit b bytes h n =
    let e : (b == 0x5c) ≡ false = grind (arith, nat_tests) in
    let l : nat_lt b 0x80 ≡ true = grind (arith, nat_tests) in
    let w : nat_lt b 0x10000 ≡ true = grind (arith, nat_tests) in
    rw (e, l, w) refl

no_units : chars_units InText 0 [] ≡ []
unfolding chars_units
no_units = refl

plain_low : (b : ℕ) → not (is_plain b) ≡ false → b < 0x80
plain_low b h = grind (arith, nat_tests, h)

plain_other : (b : ℕ) → not (is_plain b) ≡ false → b ≢ 0x5c
plain_other b h = grind (arith, nat_tests, h)

record Plain (bytes : List ℕ) : Type 0 where
  units : chars_units InText 0 bytes ≡ bytes
  ascii : are_ascii bytes ≡ true

one_plain : (b : ℕ) (bytes : List ℕ) → not (is_plain b) ≡ false → Plain bytes → Plain (b ∷ bytes)
one_plain b bytes h p =
    let low : nat_lt b 0x80 ≡ true = let l = plain_low b h in grind (arith, nat_tests, l) in
    record {
      units = plain_unit b bytes (plain_low b h) (plain_other b h) ∙ ap (λ (bs : List ℕ). b ∷ bs) p.units;
      ascii = ap (λ (c : Bool). c && are_ascii bytes) low ∙ p.ascii;
    }

all_plain : (text : List ℕ) (n from : ℕ) → from + n ≤ length text → HoldsNowhere (λ k. not (is_plain (slice_index text k))) from (from + n) → Plain (take n (drop from text))
all_plain text zero from room none = record { units = no_units; ascii = refl }
all_plain text (suc n) from room none =
    let here : not (is_plain (get_or text from 0)) ≡ false = none from (omega arith) (omega arith) in
    let rest = all_plain text n (suc from) (omega (arith, room)) (λ k low high. none k (omega (arith, low)) (omega (arith, high))) in
    subst (λ (bs : List ℕ). Plain (take (suc n) bs)) (sym (drop-cons text from 0 (omega (arith, room)))) (one_plain (get_or text from 0) (take n (drop (suc from) text)) here rest)

module _ (text : List ℕ) (from to : ℕ) (long : from + 2 ≤ to) (within : to ≤ length text) where
  -- without the quotation marks
  between : between_marks (slice_range text from to) ≡ slice_range text (from + 1) (to - 1)
  between =
      let size : length (slice_range text from to) ≡ to - from = let s = slice-length text from to (omega (arith, long)) within in omega (arith, s) in
      ap (λ (n : ℕ). take (n - 2) (drop 1 (slice_range text from to))) size
      ∙ ap (take (to - from - 2)) (slice-drop text from to 1 (omega (arith, long)))
      ∙ take-take (to - from - 2) (to - (from + 1)) (drop (from + 1) text) (omega arith)
      ∙ ap (λ (n : ℕ). take n (drop (from + 1) text)) (let e : to - from - 2 ≡ to - 1 - (from + 1) = omega arith in e)

  pub plain_name : IsFirstPlace (λ k. not (is_plain (slice_index text k))) (from + 1) (to - 1) (to - 1) → name_bytes (string_units (slice_range text from to)) ≡ slice_range text (from + 1) (to - 1)
  plain_name first =
      let n : ℕ = to - 1 - (from + 1) in
      let end : (from + 1) + n ≡ to - 1 = omega (arith, long) in
      let plain = all_plain text n (from + 1) (omega (arith, long, within)) (λ k low high. first.before k low (omega (arith, high, end))) in
      ap (λ (bs : List ℕ). name_bytes (chars_units InText 0 bs)) between ∙ ap name_bytes plain.units ∙ ascii_bytes (slice_range text (from + 1) (to - 1)) plain.ascii

-- more bytes than are wanted, cut behind those
pub short_part : (xs text : List ℕ) (from to n : ℕ) → to - from ≤ n → take (length xs + (to - from)) (xs ++ slice_range text from (from + n)) ≡ xs ++ slice_range text from to
short_part xs text from to n few =
    let size : from + n - from ≡ n = omega arith in
    take-append-add xs (slice_range text from (from + n)) (to - from)
    ∙ ap (λ (ys : List ℕ). xs ++ ys) (ap (λ (k : ℕ). take (to - from) (take k (drop from text))) size ∙ take-take (to - from) n (drop from text) few)
