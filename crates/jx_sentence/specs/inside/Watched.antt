-- The part of a scan that a known stack and the place of the last token have seen.
use Rattle.std.specs.Prelude.{◌≡◌, ℕ, List, [], ◌∷◌}
use Rattle.jx_lex.specs.declared.alphabet.mark.Mark.{Mark}
use Rattle.jx_reduce.specs.KnownStack.{Known, IsFault}
use Rattle.jx_reduce.specs.KnownStack.{HasSeen}
use Rattle.jx_sentence.specs.Standing.{last_at}

-- the first of the tokens is no real one: it stands for the offset that the scan begins at. After a fault the place is
-- ignored
abbrev pub HasWatched : List Mark → List ℕ → Known → ℕ → Type 0
HasWatched [] ends stack token = ⊥
HasWatched (first ∷ marks) ends stack token = HasSeen marks ends stack × ((IsFault stack.reading → ⊥) → token ≡ last_at first.at marks)
