-- The same tokens, which stand so many bytes further on.
use Rattle.std.specs.Prelude.{ℕ, ◌+◌}
use Rattle.jx_reduce.specs.Read.{Reading, went, stopped, too_deep}

-- the same reading of tokens that stand further on
abbrev pub shifted : ℕ → Reading → Reading
shifted by (went e s) = went e s
shifted by (stopped at) = stopped (by + at)
shifted by (too_deep at) = too_deep (by + at)
