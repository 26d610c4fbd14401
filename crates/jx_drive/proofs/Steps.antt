-- Bytes that are taken step by step.
use Rattle.std.proofs.Common.{◌≡◌, ℕ, ◌+◌, ◌-◌, ◌≤◌, List, ◌++◌, length, take, drop, sym, ap, append_assoc, ◌∙◌}
use Rattle.std.specs.Prelude.{slice_range}
use Rattle.std.proofs.lemmas.List.{take-take}
use lib.Seq.{take-add}

-- with a step from an offset on
pub one_step : (bytes slice : List ℕ) (at n : ℕ) → at ≤ length slice → n ≤ length slice - at → (bytes ++ take at slice) ++ take n (slice_range slice at (length slice)) ≡ bytes ++ take (at + n) slice
one_step bytes slice at n within low =
    append_assoc bytes (take at slice) (take n (slice_range slice at (length slice)))
    ∙ ap (λ (xs : List ℕ). bytes ++ (take at slice ++ xs)) (take-take n (length slice - at) (drop at slice) low)
    ∙ ap (λ (xs : List ℕ). bytes ++ xs) (sym (take-add at n slice))
