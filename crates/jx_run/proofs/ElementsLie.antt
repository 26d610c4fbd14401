-- The elements of an input lie in it.
use Rattle.std.proofs.Common.{◌≡◌, ℕ, suc, ◌+◌, ◌-◌, ◌≤◌, List, [], ◌∷◌, length, take, drop, Bool, true, false, cond, refl, sym, ap, ◌∙◌, arith}
use Rattle.std.specs.Prelude.{slice_range, All}
use Rattle.std.proofs.lemmas.List.{drop-drop, length-drop}
use Rattle.std.proofs.lemmas.List.Elements.{All-nil, All-cons, All-head, All-tail}
use Rattle.jx_run.specs.declared.texts.settings.FrontMark.{FrontMark}
use Rattle.jx_run.specs.declared.texts.settings.FrontMark.TheVariants as on_mark
use Rattle.jx_run.specs.Elements.{Part, part, is_separator, before_separator, after_separators, parts, has_bytes, filled, elements}
use Rattle.jx_run.specs.MarkAlone.{elements_by, is_mark_alone, without_mark}
use Rattle.jx_run.proofs.Moves.{before-short}

-- these are the bytes of the text that the part says
pub record LiesIn (text : List ℕ) (p : Part) : Type 0 where
  pub bytes : slice_range text p.at (p.at + length p.bytes) ≡ p.bytes
  pub within : p.at + length p.bytes ≤ length text

before-is_front : (bytes : List ℕ) → take (length (before_separator bytes)) bytes ≡ before_separator bytes
before-is_front [] = refl
before-is_front (b ∷ bytes) = pick (is_separator b) (before-is_front bytes)
  where
    pick : (m : Bool) → take (length (before_separator bytes)) bytes ≡ before_separator bytes
        → take (length (cond m [] (b ∷ before_separator bytes))) (b ∷ bytes) ≡ cond m [] (b ∷ before_separator bytes)
    pick true h = refl
    pick false h = ap (λ t. b ∷ t) h

pub first_lies : (text : List ℕ) (at : ℕ) (bytes : List ℕ) → drop at text ≡ bytes → at ≤ length text → LiesIn text (part at (before_separator bytes))
first_lies text at bytes h low =
    let n = length (before_separator bytes) in
    let same : (at + n) - at ≡ n = omega arith in
    let long : length (drop at text) ≡ length text - at = length-drop at text in
    let all : length (drop at text) ≡ length bytes = ap length h in
    let short : n ≤ length bytes = before-short bytes in
    record {
      bytes = ap (λ k. take k (drop at text)) same ∙ ap (take n) h ∙ before-is_front bytes;
      within = omega arith;
    }

pub parts_lie : (text : List ℕ) (at : ℕ) (bytes : List ℕ) → drop at text ≡ bytes → at ≤ length text → All (LiesIn text) (after_separators at bytes)
parts_lie text at [] h low = All-nil (LiesIn text)
parts_lie text at (b ∷ bytes) h low =
    let next : drop (suc at) text ≡ bytes =
    (let e : suc at ≡ at + 1 = omega arith in ap (λ n. drop n text) e ∙ sym (drop-drop 1 at text) ∙ ap (drop 1) h) in
    let long : length (drop at text) ≡ length text - at = length-drop at text in
    let all : length (drop at text) ≡ suc (length bytes) = ap length h in
    let more : suc at ≤ length text = omega arith in
    pick (is_separator b) (first_lies text (suc at) bytes next more) (parts_lie text (suc at) bytes next more)
  where
    pick : (m : Bool) → LiesIn text (part (suc at) (before_separator bytes)) → All (LiesIn text) (after_separators (suc at) bytes)
        → All (LiesIn text) (cond m (part (suc at) (before_separator bytes) ∷ after_separators (suc at) bytes) (after_separators (suc at) bytes))
    pick true f more = All-cons (LiesIn text) (part (suc at) (before_separator bytes)) (after_separators (suc at) bytes) f more
    pick false f more = more

kept : (input : List ℕ) (ps : List Part) → All (LiesIn input) ps → All (LiesIn input) (filled ps)
kept input [] h = All-nil (LiesIn input)
kept input (p ∷ ps) h = pick (has_bytes p) (kept input ps (All-tail (LiesIn input) p ps h))
  where
    pick : (b : Bool) → All (LiesIn input) (filled ps) → All (LiesIn input) (cond b (p ∷ filled ps) (filled ps))
    pick true k = All-cons (LiesIn input) p (filled ps) (All-head (LiesIn input) p ps h) k
    pick false k = k

pub elements_lie : (input : List ℕ) → All (LiesIn input) (elements 0 input)
elements_lie input =
    kept input (parts 0 input)
    (All-cons (LiesIn input) (part 0 (before_separator input)) (after_separators 0 input) (first_lies input 0 input refl (omega arith)) (parts_lie input 0 input refl (omega arith)))

pub lie_in : (mark : FrontMark) (input : List ℕ) → All (LiesIn input) (elements_by mark input)
lie_in on_mark.Refused input = elements_lie input
lie_in on_mark.Ignored input = left (elements 0 input) (elements_lie input)
  where
    left : (ps : List Part) → All (LiesIn input) ps → All (LiesIn input) (without_mark ps)
    left [] l = l
    left (p ∷ ps) l = pick (is_mark_alone p)
      where
        pick : (b : Bool) → All (LiesIn input) (cond b ps (p ∷ ps))
        pick true = All-tail (LiesIn input) p ps l
        pick false = l
