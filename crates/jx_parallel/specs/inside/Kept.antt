-- A run of bytes that nobody keeps, and where they stand in a text.
use Rattle.std.specs.Prelude.{◌≡◌, ℕ, ◌+◌, ◌<◌, ◌^◌, List, Option}
use Rattle.jx_run.specs.OutcomeRun.{OutcomeRunValue, IsOutcomeRun}
use Rattle.jx_parallel.specs.Offsets.{StandThere}

-- the run is the summary of some bytes within a depth; where the text is known, they are those that stand there
pub record IsKept (known : Option (List ℕ)) (depth : ℕ) (run : OutcomeRunValue) (at : ℕ) : Type 0 where
  pub depth_is : run.depth ≡ depth
  pub start : run.start ≡ 0
  pub bytes : List ℕ
  pub of : IsOutcomeRun bytes run
  pub there : StandThere known at bytes
  pub fits : at + run.end < 2 ^ 64

pub record KeptValue : Type 0 where
  -- its offsets are counted from its first byte
  pub run : OutcomeRunValue
  pub at : ℕ

abbrev pub kept : OutcomeRunValue → ℕ → KeptValue
kept run at = record { run = run; at = at }

-- one ends where the other begins
abbrev pub Touch : KeptValue → KeptValue → Type 0
Touch left right = left.at + left.run.end ≡ right.at
