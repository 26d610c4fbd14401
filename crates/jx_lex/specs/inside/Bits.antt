-- Words whose bits stand for the bytes of a block.
use Rattle.std.specs.Prelude.{ℕ, Bool, ◌==◌}
use Rattle.std.specs.Int.{bit_at}

-- whether bit k of the word is set
unfoldable pub bit : ℕ → ℕ → Bool
bit x k = bit_at x k == 1
