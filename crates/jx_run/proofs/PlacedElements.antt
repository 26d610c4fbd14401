-- Elements of a part of a sequence, read at their offsets in the whole one.
use Rattle.std.proofs.Common.{◌≡◌, ℕ, suc, ◌+◌, ◌-◌, ◌<◌, List, [], ◌∷◌, ◌++◌, length, take, map, Bool, true, false, cond, refl, sym, ap, subst, ◌∙◌, append-nil, arith}
use Rattle.std.specs.List.{AllZip}
use Rattle.std.specs.Prelude.{slice_range}
use Rattle.std.proofs.Math.Seq.{take-length}
use Rattle.jx_run.specs.declared.sequences.element_verdict.JudgedElement.{JudgedElement}
use Rattle.jx_run.specs.Elements.{Part, part, is_separator, before_separator, after_separators, parts, filled, has_bytes, elements}
use Rattle.jx_run.specs.ElementVerdict.{IsJudgedElement}
use Rattle.jx_run.proofs.Moves.{moved_part, parts_moved}
use Rattle.jx_run.proofs.Parts.{unmarked-before}
use Rattle.jx_run.proofs.SeqReading.{IsReadTo, read_more, rest_at}

-- the element of a part that stands behind so many bytes
abbrev pub IsPlaced : ℕ → ℕ → Part → JudgedElement → Type 0
IsPlaced limit by p e = IsJudgedElement limit (moved_part by p) e

all_placed : (limit by : ℕ) (ps : List Part) (es : List JudgedElement) → AllZip (IsPlaced limit by) (filled ps) es → AllZip (IsJudgedElement limit) (filled (map (moved_part by) ps)) es
all_placed limit by [] es z = z
all_placed limit by (p ∷ ps) es z = pick (has_bytes p) es (λ es z. all_placed limit by ps es z) z
  where
    pick : (f : Bool) (es : List JudgedElement) → ((es : List JudgedElement) → AllZip (IsPlaced limit by) (filled ps) es → AllZip (IsJudgedElement limit) (filled (map (moved_part by) ps)) es)
        → AllZip (IsPlaced limit by) (cond f (p ∷ filled ps) (filled ps)) es
        → AllZip (IsJudgedElement limit) (cond f (moved_part by p ∷ filled (map (moved_part by) ps)) (filled (map (moved_part by) ps))) es
    pick true [] rest z = absurd z
    pick true (e ∷ es) rest z = (z.0, rest es z.1)
    pick false es rest z = rest es z

-- the last part goes on to the end
pub read_last : {D : Type 0} (R : Part → D → Type 0) (all : List Part) (text : List ℕ) (from end : ℕ) (done more : List D) → after_separators from (slice_range text from end) ≡ []
    → IsReadTo R all (rest_at text from end) done → AllZip R (filled (part from (slice_range text from end) ∷ [])) more → AllZip R (filled all) (done ++ more)
read_last R all text from end done more none so_far last =
    let p = part from (slice_range text from end) in
    let one : rest_at text from end ≡ p ∷ [] =
    ap (λ t. part from t ∷ after_separators from (slice_range text from end)) (unmarked-before (slice_range text from end) from none) ∙ ap (λ ps. p ∷ ps) none in
    let h = read_more R all [] p done more (subst (λ ps. IsReadTo R all ps done) one so_far) last in
    subst (λ ps. AllZip R (filled ps) (done ++ more)) (sym (h.are ∙ append-nil h.between)) h.readings

-- what begins with a separator
starts_marked : (b : ℕ) (bs : List ℕ) → before_separator (b ∷ bs) ≡ [] → is_separator b ≡ true
starts_marked b bs h = pick (is_separator b) h
  where
    pick : (m : Bool) → cond m [] (b ∷ before_separator bs) ≡ [] → m ≡ true
    pick true h = refl
    pick false h = absurd (cc)

behind_first : (by b : ℕ) (bs : List ℕ) → before_separator (b ∷ bs) ≡ [] → elements by (b ∷ bs) ≡ filled (map (moved_part by) (parts 1 bs))
behind_first by b bs h =
    let more : suc by ≡ by + 1 = omega arith in
    ap (λ t. filled (part by t ∷ after_separators by (b ∷ bs))) h
    ∙ ap (λ m. filled (cond m (parts (suc by) bs) (after_separators (suc by) bs))) (starts_marked b bs h)
    ∙ ap (λ n. filled (parts n bs)) more
    ∙ ap (λ ps. filled (part (by + 1) (before_separator bs) ∷ ps)) (parts_moved by 1 bs)

pub placed_elements : (limit by : ℕ) (bytes : List ℕ) (es : List JudgedElement) → before_separator bytes ≡ [] → 0 < length bytes
    → AllZip (IsPlaced limit by) (filled (rest_at bytes 1 (length bytes))) es → AllZip (IsJudgedElement limit) (elements by bytes) es
placed_elements limit by [] es h low z = absurd (omega arith)
placed_elements limit by (b ∷ bs) es h low z =
    let all : slice_range (b ∷ bs) 1 (length (b ∷ bs)) ≡ bs = ap (λ n. take n bs) (let e : suc (length bs) - 1 ≡ length bs = omega arith in e) ∙ take-length bs in
    subst (λ ps. AllZip (IsJudgedElement limit) ps es) (sym (behind_first by b bs h))
    (all_placed limit by (parts 1 bs) es (subst (λ xs. AllZip (IsPlaced limit by) (filled (parts 1 xs)) es) all z))
