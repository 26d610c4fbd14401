-- Marks and ends of a slice, behind those before it, and the bytes up to its end.
use Rattle.std.proofs.Common.{◌≡◌, ℕ, ◌+◌, ◌-◌, Bool, cond, List, [], ◌∷◌, ◌++◌, length, drop, refl, sym, ap, ◌∙◌, append_assoc, arith}
use Rattle.std.specs.Prelude.{slice_range}
use Rattle.std.proofs.lemmas.List.{length-drop, length-map, map-append, take_all}
use Rattle.jx_lex.specs.declared.alphabet.mark.Mark.{Mark}
use Rattle.jx_lex.specs.declared.alphabet.mark.MarkKind.{MarkKind}
use Rattle.jx_lex.specs.declared.scanner.counts.TokenCounts.{TokenCounts}
use Rattle.jx_lex.specs.Counts.{HasCounts, Levels, at_start, number_of, is_brace, is_comma, is_string, is_scalar, on_level, opens, closes}
use Rattle.jx_lex.specs.Seen.{has_end}
use Rattle.jx_lex.proofs.Counts.{number_of-more, number_of-has_end}
use Rattle.jx_lex.proofs.Levels.{levels_from}
use Rattle.jx_run.specs.Telling.{moved_ends, moved_mark, moved_marks}

pub marks_more : (base : ℕ) (ms marks : List Mark) (m : Mark) → ms ++ moved_marks base (marks ++ m ∷ []) ≡ (ms ++ moved_marks base marks) ++ moved_mark base m ∷ []
marks_more base ms marks m = ap (λ (xs : List Mark). ms ++ xs) (map-append (moved_mark base) marks (m ∷ [])) ∙ sym (append_assoc ms (moved_marks base marks) (moved_mark base m ∷ []))

pub ends_more : (base : ℕ) (es ends : List ℕ) (at : ℕ) → es ++ moved_ends base (ends ++ at ∷ []) ≡ (es ++ moved_ends base ends) ++ (base + at) ∷ []
ends_more base es ends at = ap (λ (xs : List ℕ). es ++ xs) (map-append (λ (end : ℕ). base + end) ends (at ∷ [])) ∙ sym (append_assoc es (moved_ends base ends) ((base + at) ∷ []))

pub rest : (bytes : List ℕ) (at : ℕ) → slice_range bytes at (length bytes) ≡ drop at bytes
rest bytes at = take_all (length bytes - at) (drop at bytes) (let e : length (drop at bytes) ≡ length bytes - at = length-drop at bytes in omega (arith, e))

-- ---- many at once

pub marks_all : (base : ℕ) (ms marks more : List Mark) → ms ++ moved_marks base (marks ++ more) ≡ (ms ++ moved_marks base marks) ++ moved_marks base more
marks_all base ms marks more = ap (λ (xs : List Mark). ms ++ xs) (map-append (moved_mark base) marks more) ∙ sym (append_assoc ms (moved_marks base marks) (moved_marks base more))

pub ends_all : (base : ℕ) (es ends others : List ℕ) → es ++ moved_ends base (ends ++ others) ≡ (es ++ moved_ends base ends) ++ moved_ends base others
ends_all base es ends others = ap (λ (xs : List ℕ). es ++ xs) (map-append (λ (end : ℕ). base + end) ends others) ∙ sym (append_assoc es (moved_ends base ends) (moved_ends base others))

-- where they stand does not matter for how many they are
number_of-moved : (test : MarkKind → Bool) (base : ℕ) (ms : List Mark) → number_of test (moved_marks base ms) ≡ number_of test ms
number_of-moved test base [] = refl
number_of-moved test base (m ∷ ms) =
    let rest = number_of-moved test base ms in
    number_of-more test (moved_mark base m) (moved_marks base ms) ∙ ap (λ (n : ℕ). cond (test m.kind) 1 0 + n) rest ∙ sym (number_of-more test m ms)

-- nor for the level
levels-moved : (base : ℕ) (l : Levels) (ms : List Mark) → levels_from l (moved_marks base ms) ≡ levels_from l ms
levels-moved base l [] = refl
levels-moved base l (m ∷ ms) = levels-moved base (on_level m.kind l) ms

pub moved_counts : (base : ℕ) (ms : List Mark) (es : List ℕ) (counts : TokenCounts) → HasCounts ms es counts → HasCounts (moved_marks base ms) (moved_ends base es) counts
moved_counts base ms es counts h = record {
  commas = number_of-moved is_comma base ms ∙ h.commas;
  strings = number_of-moved is_string base ms ∙ h.strings;
  scalars = number_of-moved is_scalar base ms ∙ h.scalars;
  opening = number_of-moved opens base ms ∙ h.opening;
  closing = number_of-moved closes base ms ∙ h.closing;
  braces = number_of-moved is_brace base ms ∙ h.braces;
  ended = length-map es (λ (end : ℕ). base + end) ∙ h.ended;
  lowest = ap (λ (l : Levels). l.lowest) (levels-moved base at_start ms) ∙ h.lowest;
  lowest_commas = ap (λ (l : Levels). l.commas) (levels-moved base at_start ms) ∙ h.lowest_commas;
  lowest_values = ap (λ (l : Levels). l.values) (levels-moved base at_start ms) ∙ h.lowest_values;
}

-- as many ends as token starts with one
pub ended_by : (ms : List Mark) (es : List ℕ) (counts : TokenCounts) → HasCounts ms es counts → length es ≡ number_of has_end ms
ended_by ms es counts h = h.ended ∙ sym (number_of-has_end ms ∙ (λ i. h.strings i + h.scalars i))
