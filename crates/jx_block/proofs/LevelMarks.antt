-- The lowest level of the token starts of a block is that of its words.
use Rattle.std.proofs.Common.{◌≡◌, ℕ, zero, suc, ◌+◌, ◌-◌, ◌^◌, ◌<◌, ◌≤◌, Bool, true, false, List, [], ◌∷◌, length, get_or, Option, Some, None, refl, ap, sym, ◌∙◌, arith}
use Rattle.std.specs.Prelude.{slice_range, ◌==◌, ◌&&◌, ◌||◌}
use Rattle.std.proofs.lemmas.List.Sums.{fold-append}
use Rattle.std.proofs.lemmas.Nat.Bits.{bit_at_above}
use Rattle.jx_lex.specs.declared.alphabet.mark.Mark.{Mark}
use Rattle.jx_lex.specs.declared.alphabet.mark.MarkKind.{MarkKind}
use Rattle.jx_lex.specs.declared.alphabet.mark.MarkKind.TheVariants as mark
use Rattle.jx_lex.specs.Counts.{Levels, at_start, closes, closing, is_comma, is_scalar, is_string, levels_of, on_level, opens, seen_there}
use Rattle.jx_lex.specs.Lex.{with_mark}
use Rattle.jx_lex.proofs.Levels.{levels_from, seen_none}
use Rattle.jx_lex.proofs.Slices.{slice-more, slice-none, slice-length}
use Rattle.jx_block.specs.Kinds.{Among, begins_scalar}
use Rattle.jx_block.specs.Listed.{is_set, marks_of}
use Rattle.jx_block.specs.inside.Levels.{levels_to, moved, one_if}
use Rattle.jx_block.proofs.BitCounts.{Begins, at_byte, passes}
use Rattle.jx_block.proofs.LevelBits.{levels-cut}
use Rattle.jx_block.proofs.Listing.{mark_at, marks_of-append, marks_of-one}

-- ---- one token start, by what it is

-- a value begins
abbrev pub is_value : MarkKind → Bool
is_value k = (is_string k || is_scalar k) || opens k

pub begins-value : Begins is_value (λ b. ((b == 0x22) || begins_scalar b) || ((b == 0x5b) || (b == 0x7b)))
begins-value = refl

kind_moves : (k : MarkKind) (l : Levels) → on_level k l ≡ moved (opens k) (closes k) (seen_there (one_if (is_comma k)) (one_if (is_value k)) l)
kind_moves mark.OpenArray l = refl
kind_moves mark.OpenObject l = refl
kind_moves mark.CloseArray l = sym (ap closing (seen_none l))
kind_moves mark.CloseObject l = sym (ap closing (seen_none l))
kind_moves mark.Comma l = refl
kind_moves mark.Colon l = sym (seen_none l)
kind_moves mark.String l = refl
kind_moves mark.Number l = refl
kind_moves mark.True l = refl
kind_moves mark.False l = refl
kind_moves mark.Null l = refl

of_mark : (k : Option MarkKind) (i : ℕ) (l : Levels) → levels_from l (with_mark k i []) ≡ moved (passes opens k) (passes closes k) (seen_there (one_if (passes is_comma k)) (one_if (passes is_value k)) l)
of_mark None i l = sym (seen_none l)
of_mark (Some k) i l = kind_moves k l

-- ---- all token starts

module _ (o c m v : ℕ) (ob cb mb vb : ℕ → Bool) (text : List ℕ) (at starts : ℕ)
    (ot : Begins opens ob) (ct : Begins closes cb) (mt : Begins is_comma mb) (vt : Begins is_value vb)
    (oa : Among text at starts o ob) (ca : Among text at starts c cb) (ma : Among text at starts m mb) (va : Among text at starts v vb) (fits : at + 64 ≤ length text)
    (small : (k : ℕ) → k < 64 → is_set starts k ≡ true → get_or text (at + k) 0 < 256) where
  -- the first n bytes
  levels-first : (n : ℕ) → n ≤ 64 → levels_of (marks_of starts 0 at (slice_range text at (at + n))) ≡ levels_to o c m v n
  unfolding marks_of
  levels-first zero le = let e : at + 0 ≡ at = omega arith in ap (λ (bytes : List ℕ). levels_of (marks_of starts 0 at bytes)) (ap (slice_range text at) e ∙ slice-none text at)
  levels-first (suc n) le =
      let bytes = slice_range text at (at + n) in
      let b = get_or text (at + n) 0 in
      let lt : n < 64 = omega arith in
      let long = slice-length text at (at + n) (omega arith) (omega arith) in
      let e : at + suc n ≡ at + n + 1 = omega arith in
      let p : 0 + length bytes ≡ n = omega (arith, long) in
      let q : at + length bytes ≡ at + n = omega (arith, long) in
      let before = levels-first n (omega arith) in
      let oe = at_byte opens ob text at starts o ot oa fits small n lt in
      let ce = at_byte closes cb text at starts c ct ca fits small n lt in
      let me = at_byte is_comma mb text at starts m mt ma fits small n lt in
      let ve = at_byte is_value vb text at starts v vt va fits small n lt in
      ap (λ (bytes : List ℕ). levels_of (marks_of starts 0 at bytes)) (ap (slice_range text at) e ∙ slice-more text at (at + n) 0 (omega arith) (omega arith))
      ∙ ap (λ (ms : List Mark). levels_of ms) (marks_of-append starts 0 at bytes (b ∷ []))
      ∙ fold-append (λ l (mark : Mark). on_level mark.kind l) at_start (marks_of starts 0 at bytes) (marks_of starts (0 + length bytes) (at + length bytes) (b ∷ []))
      ∙ (λ i. levels_from (before i) (marks_of starts (p i) (q i) (b ∷ [])))
      ∙ ap (λ (ms : List Mark). levels_from (levels_to o c m v n) ms) (marks_of-one starts n (at + n) b)
      ∙ of_mark (mark_at starts n b) (at + n) (levels_to o c m v n)
      ∙ (λ i. moved (oe i) (ce i) (seen_there (one_if (me i)) (one_if (ve i)) (levels_to o c m v n)))

  -- behind the last token start
  pub levels-all : (len : ℕ) → len < 64 → starts < 2 ^ len → levels_of (marks_of starts 0 at (slice_range text at (at + len))) ≡ levels_to o c m v 64
  levels-all len lt few =
      let e : len + (64 - len) ≡ 64 = omega arith in
      let none : (w : ℕ) (byte : ℕ → Bool) → Among text at starts w byte → (k : ℕ) → len ≤ k → k < 64 → is_set w k ≡ false =
      λ w byte among k low high. among k high ∙ ap (λ (s : Bool). s && byte (get_or text (at + k) 0)) (ap (λ n. n == 1) (bit_at_above starts len k few low)) in
      levels-first len (omega arith)
      ∙ sym (levels-cut o c m v len (64 - len)
      (λ k low high. (none o ob oa k low (omega arith), none c cb ca k low (omega arith), none m mb ma k low (omega arith), none v vb va k low (omega arith))))
      ∙ ap (levels_to o c m v) e
