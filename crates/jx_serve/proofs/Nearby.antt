-- Positions that are counted on from one that is known.
use Rattle.std.proofs.Common.{◌≡◌, ℕ, ◌+◌, ◌-◌, ◌≤◌, List, ◌++◌, min, length, take, sym, ap, ◌∙◌, arith}
use Rattle.std.specs.Prelude.{slice_range, IfSome, Option, None, Some}
use Rattle.std.proofs.lemmas.List.{length-take-le, take-take}
use Rattle.std.proofs.Math.Seq.{take-add}
use Rattle.jx_edit.specs.Positions.{first, position_at, position_behind}
use Rattle.jx_edit.specs.declared.positions.encoding.Encoding.{Encoding}
use Rattle.jx_edit.specs.declared.positions.position.Position.{Position}
use Rattle.jx_edit.proofs.Counting.{behind_parts}

parts : (xs : List ℕ) (from to : ℕ) → from ≤ to → take from xs ++ slice_range xs from to ≡ take to xs
parts xs from to h =
    let e : from + (to - from) ≡ to = omega (arith, h) in
    sym (take-add from (to - from) xs) ∙ ap (λ (n : ℕ). take n xs) e

pub near_is : (e : Encoding) (bytes before between : List ℕ) (p q : Position) (from to : ℕ) → take (length before) bytes ≡ before → p ≡ position_at e bytes from → from ≤ to → to ≤ length before
    → between ≡ slice_range before from to → q ≡ position_behind e p between → q ≡ position_at e bytes to
near_is e bytes before between p q from to begins known order within is moved =
    let near : take from bytes ≡ take from before = sym (take-take from (length before) bytes (omega arith)) ∙ ap (take from) begins in
    let far : take to before ≡ take to bytes = ap (take to) (sym begins) ∙ take-take to (length before) bytes within in
    moved
    ∙ ap (position_behind e p) is
    ∙ ap (λ (r : Position). position_behind e r (slice_range before from to)) (known ∙ ap (position_behind e first) near)
    ∙ sym (behind_parts e first (take from before) (slice_range before from to))
    ∙ ap (position_behind e first) (parts before from to order ∙ far)

pub near_some : (e : Encoding) (bytes before between : List ℕ) (p : Position) (found : Option Position) (from to : ℕ) → take (length before) bytes ≡ before → p ≡ position_at e bytes from → from ≤ to
    → to ≤ length before → between ≡ slice_range before from to → IfSome found (λ q. q ≡ position_behind e p between) → IfSome found (λ q. q ≡ position_at e bytes to)
near_some e bytes before between p None from to begins known order within is moved = tt
near_some e bytes before between p (Some q) from to begins known order within is moved = near_is e bytes before between p q from to begins known order within is moved

pub beginning_is : (text bytes : List ℕ) (kept m : ℕ) → m ≡ min kept (length text) → take kept text ≡ take kept bytes → take (length (take m text)) bytes ≡ take m text
beginning_is text bytes kept m e h =
    let long : length (take m text) ≡ m = length-take-le m text (omega (arith, e)) in
    ap (λ (n : ℕ). take n bytes) long ∙ sym (take-take m kept bytes (omega (arith, e))) ∙ ap (take m) (sym h) ∙ take-take m kept text (omega (arith, e))
