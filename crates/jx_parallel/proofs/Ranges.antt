-- Parts of a text side by side.
use Rattle.std.proofs.Common.{◌≡◌, ℕ, ◌+◌, ◌-◌, ◌≤◌, List, ◌++◌, take, drop, ap, sym, ◌∙◌, arith}
use Rattle.std.specs.Prelude.{slice_range}
use Rattle.std.proofs.Math.Seq.{take-add}
use Rattle.std.proofs.lemmas.List.{drop-drop, drop-take, take-take}

pub range_split : {X : Type 0} (l : List X) (a b c : ℕ) → a ≤ b → b ≤ c → slice_range l a c ≡ slice_range l a b ++ slice_range l b c
range_split {X = X} l a b c ab bc =
    let n : c - a ≡ (b - a) + (c - b) = omega arith in
    let m : a + (b - a) ≡ b = omega arith in
    ap (λ k. take k (drop a l)) n ∙ take-add (b - a) (c - b) (drop a l)
    ∙ ap (λ (r : List X). take (b - a) (drop a l) ++ take (c - b) r) (drop-drop (b - a) a l ∙ ap (λ k. drop k l) m)

pub inner_range : {X : Type 0} (l : List X) (from to a b : ℕ) → a ≤ b → b ≤ to - from → slice_range (slice_range l from to) a b ≡ slice_range l (from + a) (from + b)
inner_range {X = X} l from to a b ab within =
    let all : to - from ≡ a + ((to - from) - a) = omega arith in
    let n : (from + b) - (from + a) ≡ b - a = omega arith in
    let m : from + a ≡ a + from = omega arith in
    ap (λ k. take (b - a) (drop a (take k (drop from l)))) all
    ∙ ap (λ (r : List X). take (b - a) r) (drop-take a ((to - from) - a) (drop from l))
    ∙ take-take (b - a) ((to - from) - a) (drop a (drop from l)) (omega arith)
    ∙ ap (λ (r : List X). take (b - a) r) (drop-drop a from l)
    ∙ ap (λ k. take k (drop (from + a) l)) (sym n)
