-- The bytes of a value, chunk by chunk.
use Rattle.std.specs.Prelude.{Option, slice_range}
use Rattle.std.proofs.Common.{◌≡◌, ℕ, ◌+◌, ◌-◌, ◌<◌, ◌≤◌, List, [], ◌++◌, length, take, drop, min, sym, ap, ◌∙◌, arith, ◌⊎◌, inl, inr}
use Rattle.std.proofs.lemmas.Bool.{cases_lt}
use Rattle.std.proofs.lemmas.List.{drop-drop, drop-take, length-drop, take-take}
use Rattle.std.proofs.Math.Seq.{take-add}
use Rattle.jx_file_index.specs.declared.index.Index.{Index}
use Rattle.jx_cmd_index.specs.declared.held_chunk.HeldChunk.{HeldChunk}
use Rattle.jx_cmd_index.specs.inside.HeldChunks.{IsHeldIn}
use Rattle.jx_cmd_index.specs.inside.Texts.{AreBytesIn}
use Rattle.jx_cmd_index.proofs.NeededChunks.{both_taken}

-- ---- slices

-- a slice and the one behind it
behind : (xs : List ℕ) (a b c : ℕ) → a ≤ b → b ≤ c → slice_range xs a b ++ slice_range xs b c ≡ slice_range xs a c
behind xs a b c low high =
    let there : a + (b - a) ≡ b = omega (arith, low) in
    let sum : (b - a) + (c - b) ≡ c - a = omega (arith, low, high) in
    ap (λ (l : List ℕ). take (b - a) (drop a xs) ++ take (c - b) l) (sym (drop-drop (b - a) a xs ∙ ap (λ (n : ℕ). drop n xs) there))
    ∙ sym (take-add (b - a) (c - b) (drop a xs))
    ∙ ap (λ (n : ℕ). take n (drop a xs)) sum

-- a slice of a slice
inner : (xs : List ℕ) (start end from to : ℕ) → start ≤ from → from ≤ to → to ≤ end → slice_range (slice_range xs start end) (from - start) (to - start) ≡ slice_range xs from to
inner xs start end from to low order high =
    let n : ℕ = from - start in
    let rest : ℕ = end - from in
    let all : end - start ≡ n + rest = omega (arith, low, order, high) in
    let long : (to - start) - n ≡ to - from = omega (arith, low, order) in
    let there : start + n ≡ from = omega (arith, low) in
    ap (λ (m : ℕ). take m (drop n (take (end - start) (drop start xs)))) long
    ∙ ap (λ (m : ℕ). take (to - from) (drop n (take m (drop start xs)))) all
    ∙ ap (take (to - from)) (drop-take n rest (drop start xs))
    ∙ take-take (to - from) rest (drop n (drop start xs)) (omega (arith, order, high))
    ∙ ap (take (to - from)) (drop-drop n start xs ∙ ap (λ (m : ℕ). drop m xs) there)

-- where a slice ends behind a list it is that up to the list's end
cut : (xs : List ℕ) (start end at : ℕ) → start ≤ at → min end (length xs) ≤ at → (start < at → at ≤ min end (length xs)) → slice_range xs start at ≡ slice_range xs start end
cut xs start end at low high reached =
    let rest : length (drop start xs) ≡ length xs - start = length-drop start xs in
    both_taken (at - start) (end - start) (drop start xs) (pick (cases_lt (length xs) end) (cases_lt start at))
  where
    pick : ((length xs < end) ⊎ (end ≤ length xs)) → ((start < at) ⊎ (at ≤ start)) → (at - start ≡ end - start) ⊎ ((length (drop start xs) ≤ at - start) × (length (drop start xs) ≤ end - start))
    pick (inl far) case = let rest : length (drop start xs) ≡ length xs - start = length-drop start xs in inr (omega (arith, far, rest, high, low), omega (arith, far, rest, high, low))
    pick (inr near) (inl some) = let r = reached some in inl (omega (arith, near, r, high))
    pick (inr near) (inr none) = inl (omega (arith, near, none, high, low))

-- ---- of each text

pub none_yet : (known : Option (List ℕ)) (index : Index) (at : ℕ) (bytes : List ℕ) → bytes ≡ [] → AreBytesIn known index at at bytes
none_yet known index at bytes e = λ settings chunk text file is_index is tells. e ∙ ap (λ (n : ℕ). take n (drop at text)) (let z : 0 ≡ at - at = omega arith in z)

-- nothing is held
pub none_held : (known : Option (List ℕ)) (index : Index) (held : HeldChunk) → held.span.start ≡ 0 → held.span.end ≡ 0 → held.bytes.items ≡ [] → IsHeldIn known index held
none_held known index held starts ends e = record {
  long = let l : length held.bytes.items ≡ 0 = ap (λ (l : List ℕ). length l) e in omega (arith, l, starts, ends);
  bytes = λ settings chunk text file is_index is tells.
      let none : slice_range text held.span.start held.span.end ≡ [] = ap (λ (n : ℕ). slice_range text held.span.start n) ends ∙ ap (λ (n : ℕ). slice_range text n 0) starts in
      e ∙ sym none;
}

pub one_more : (known : Option (List ℕ)) (index : Index) (start at to low high : ℕ) (value next held part : List ℕ) → start ≤ at → low ≤ at → at ≤ to → to ≤ high → AreBytesIn known index start at value
    → AreBytesIn known index low high held → part ≡ slice_range held (at - low) (to - low) → next ≡ value ++ part → AreBytesIn known index start to next
one_more known index start at to low high value next held part begun inside order ends so_far holds is grown = λ settings chunk text file is_index known_is tells.
    let front : value ≡ slice_range text start at = so_far settings chunk text file is_index known_is tells in
    let more : part ≡ slice_range text at to =
    is ∙ ap (λ (l : List ℕ). slice_range l (at - low) (to - low)) (holds settings chunk text file is_index known_is tells) ∙ inner text low high at to inside order ends in
    grown ∙ ap (λ (l : List ℕ). l ++ part) front ∙ ap (λ (l : List ℕ). slice_range text start at ++ l) more ∙ behind text start at to begun order

pub all_come : (known : Option (List ℕ)) (index : Index) (start end at : ℕ) (value : List ℕ) → start ≤ at → min end index.size ≤ at → (start < at → at ≤ min end index.size) → AreBytesIn known index start at value
    → AreBytesIn known index start end value
all_come known index start end at value low high reached so_far = λ settings chunk text file is_index is tells.
    let long : index.size ≡ length text = is_index.size_is in
    so_far settings chunk text file is_index is tells
    ∙ cut text start end at low (let l = long in omega (arith, high, l)) (λ some. let r = reached some in let l = long in omega (arith, r, l))
