-- Line feeds that are counted, and not kept.
use Rattle.std.specs.Prelude.{ℕ, zero, suc, List, [], ◌∷◌, ◌==◌, ◌&&◌, Bool, true, decimal}
use Rattle.jx_ends.specs.declared.exit.Exit.{Exit}
use Rattle.jx_ends.specs.declared.exit.Exit.TheVariants.{Good, Bad}
use Rattle.jx_words.specs.Words.{line}

-- so many line feeds
abbrev pub line_feeds : ℕ → List ℕ
line_feeds zero = []
line_feeds (suc n) = 0x0a ∷ line_feeds n

abbrev pub all_line_feeds : List ℕ → Bool
all_line_feeds [] = true
all_line_feeds (byte ∷ bytes) = byte == 0x0a && all_line_feeds bytes

-- the line of a number, where the status is good
abbrev pub number_by : Exit → ℕ → List ℕ
number_by Good n = line (decimal n)
number_by Bad n = []
