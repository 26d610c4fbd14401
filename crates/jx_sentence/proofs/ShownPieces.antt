-- Bytes as they are shown, part by part.
use Rattle.std.proofs.Common.{◌≡◌, ℕ, ◌-◌, ◌<◌, ◌≤◌, List, [], ◌∷◌, ◌++◌, Some, drop, take, length, refl, sym, ◌∙◌, ap, append_assoc, append-nil, length-drop, subst, arith}
use Rattle.std.specs.Prelude.{encode_utf8}
use Rattle.std.proofs.Math.Seq.{take-append_seam}
use Rattle.std.proofs.lemmas.List.{length-take-le, take_all}
use Rattle.bstr.specs.Utf8.{Decoded, decoded}
use Rattle.bstr.proofs.lemmas.PieceLemmas.{piece-bounds, pieces-step, pieces-nil, size-within}
use Rattle.bstr.proofs.lemmas.SoundLemmas.{SpellsChar, SpellsChar-decoded}
use Rattle.jx_sentence.specs.Shown.{first_size, shown, shown_first, shown_pieces}

pub shown-step : (bs : List ℕ) → 0 < length bs → shown bs ≡ shown_first bs ++ shown (drop (first_size bs) bs)
unfolding shown shown_pieces shown_first first_size
shown-step bs some = ap (λ (ps : List Decoded). shown_pieces ps bs) (pieces-step bs some)

pub shown-nil : shown [] ≡ []
unfolding shown shown_pieces
shown-nil = ap (λ (ps : List Decoded). shown_pieces ps []) pieces-nil

-- a character is spelt by its bytes
pub spelt : (bs : List ℕ) (c : ℕ) → (decoded bs).char ≡ Some c → encode_utf8 c ≡ take (decoded bs).size bs
spelt bs c is =
    let s : SpellsChar bs c (decoded bs).size = SpellsChar-decoded bs c is in
    let e : List ℕ = encode_utf8 c in
    sym (ap (λ (n : ℕ). take n bs) (sym s.width) ∙ ap (take (length e)) s.bytes ∙ take-append_seam e (drop (decoded bs).size bs))

-- a part has some of the bytes
pub bounds : (bs : List ℕ) → 0 < length bs → (0 < (decoded bs).size) × ((decoded bs).size ≤ length bs)
bounds bs some =
    let b = piece-bounds bs some in
    let one : 1 ≤ (decoded bs).size = b.0 in
    (omega (arith, one), b.2)

pub within : (bs : List ℕ) → first_size bs ≤ length bs
unfolding first_size
within bs = size-within bs

pub cut : (bs : List ℕ) (n : ℕ) → n ≡ (decoded bs).size → n ≡ length (take n bs)
cut bs n is =
    let low : n ≤ length bs = subst (λ (m : ℕ). m ≤ length bs) (sym is) (size-within bs) in
    sym (length-take-le n bs low)

-- ---- what is written so far, and then the rest, is all

pub shown_on : (old new all rest : List ℕ) (size : ℕ) → old ++ shown rest ≡ all → new ≡ old ++ shown_first rest → size ≡ first_size rest → 0 < length rest
    → new ++ shown (take (length rest - size) (drop size rest)) ≡ all
shown_on old new all rest size before is size_is some =
    let left : length (drop size rest) ≤ length rest - size = omega (arith, length-drop size rest) in
    let whole : take (length rest - size) (drop size rest) ≡ drop size rest = take_all (length rest - size) (drop size rest) left in
    ap (λ (l : List ℕ). new ++ shown l) whole
    ∙ ap (λ (l : List ℕ). l ++ shown (drop size rest)) is
    ∙ append_assoc old (shown_first rest) (shown (drop size rest))
    ∙ ap (λ (n : ℕ). old ++ (shown_first rest ++ shown (drop n rest))) size_is
    ∙ ap (λ (l : List ℕ). old ++ l) (sym (shown-step rest some))
    ∙ before

pub shown_end : (old all rest : List ℕ) → old ++ shown rest ≡ all → length rest ≡ 0 → old ≡ all
shown_end old all [] is none = sym (ap (λ (l : List ℕ). old ++ l) shown-nil ∙ append-nil old) ∙ is
shown_end old all (x ∷ xs) is none = absurd (omega arith)
