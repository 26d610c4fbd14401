-- The bytes in a buffer of the caller's.
use Rattle.std.specs.Prelude.{◌≡◌, ℕ, ◌≤◌, List, length, map, take, drop, min}

-- they are shown in the buffer, as many of them as it has room for, and the rest of it is as it was
pub record IsFilled {X Y : Type 0} (show : Y → X) (old new : List X) (from : List Y) : Type 0 where
  pub shown_are : take (min (length old) (length from)) new ≡ map show (take (min (length old) (length from)) from)
  pub rest : (n : ℕ) → min (length old) (length from) ≤ n → drop n new ≡ drop n old
