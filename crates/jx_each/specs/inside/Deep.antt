-- Blocks in which two containers or more stay open.
use Rattle.std.specs.Prelude.{◌≡◌, ◌<◌, ℕ, zero, suc, List, get_or, Bool}
use Rattle.jx_each.specs.declared.blocks.Words.{Words}
use Rattle.jx_each.specs.inside.Blocks.{place_at}
use Rattle.jx_each.specs.Turns.{height_next}

-- how many containers are open in front of byte k
abbrev pub height_at : List ℕ → Bool → Words → ℕ → ℕ → ℕ
height_at block inside words height zero = height
height_at block inside words height (suc k) = height_next (place_at inside words k) (height_at block inside words height k) (get_or block k 0)

-- all bytes are looked at, two containers or more are open in front of each, and so many behind the last one
pub record IsDeep (block : List ℕ) (inside : Bool) (words : Words) (height high : ℕ) : Type 0 where
  pub whole : words.len ≡ 64
  pub before : (k : ℕ) → k < 64 → 1 < height_at block inside words height k
  pub behind : height_at block inside words height 64 ≡ high
