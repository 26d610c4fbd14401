-- Bytes that are read at offsets, where they are known.
use Rattle.std.specs.Prelude.{◌≡◌, ◌≤◌, ◌<◌, ◌+◌, ℕ, List, Option, None, Some, Result, ⊤, length, take, slice_range, MatchResult}

-- these are all of the known bytes
abbrev pub IsContent : Option (List ℕ) → List ℕ → Type 0
IsContent None text = ⊤
IsContent (Some xs) text = text ≡ xs

-- these are the known bytes from an offset on, as many as there are of these
abbrev pub StandThere : Option (List ℕ) → ℕ → List ℕ → Type 0
StandThere None at bytes = ⊤
StandThere (Some xs) at bytes = slice_range xs at (at + length bytes) ≡ bytes

-- no known byte stands at an offset or after it
abbrev pub EndsBefore : Option (List ℕ) → ℕ → Type 0
EndsBefore None at = ⊤
EndsBefore (Some xs) at = length xs ≤ at

-- a read gave the bytes that stand there, none only after the last byte or with no room
abbrev pub ReadsThere : {E : Type 0} → Option (List ℕ) → ℕ → Result ℕ E → List ℕ → Type 0
ReadsThere known at result buf = MatchResult result (λ n. StandThere known at (take n buf) × (n ≡ 0 → 0 < length buf → EndsBefore known at)) (λ _. ⊤)
