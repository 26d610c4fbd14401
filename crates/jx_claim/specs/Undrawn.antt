-- The chunks that nobody has taken.
use Rattle.std.specs.Prelude.{◌≡◌, ℕ, ◌-◌, ◌++◌, List, ◌∷◌}
use Rattle.std.specs.List.{range_with_len}

-- the list `more` is `less` with x put in at some place
abbrev pub With : {X : Type 0} → X → List X → List X → Type 0
With x less more = (front back : List _) × (less ≡ front ++ back) × (more ≡ front ++ x ∷ back)

-- the numbers from the word, which the next worker finds, up to the count of chunks
abbrev pub undrawn : ℕ → ℕ → List ℕ
undrawn word count = range_with_len word (count - word)

-- the chunk p is untaken, and untaken no more
abbrev pub Draws : List ℕ → ℕ → List ℕ → Type 0
Draws old p new = With p new old
