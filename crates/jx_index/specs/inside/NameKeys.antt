-- Keys of names: equal units have equal keys.
use Rattle.std.specs.Prelude.{◌≡◌, ℕ, ◌<◌, ◌+◌, ◌*◌, ◌%◌, ◌^◌, List, [], ◌∷◌, length, get_or}
use Rattle.jx_summary.specs.declared.span.Span.{Span}
use Rattle.jx_index.specs.Units.{units_at}

abbrev pub next_key : ℕ → ℕ → ℕ
next_key key unit = (key * 31 % 2 ^ 64 + unit) % 2 ^ 64

abbrev pub key_behind : ℕ → List ℕ → ℕ
key_behind key [] = key
key_behind key (unit ∷ units) = key_behind (next_key key unit) units

abbrev pub key_in : List ℕ → Span → ℕ
key_in text name = key_behind 0 (units_at text name)

-- no two are equal
abbrev pub AreApart : List ℕ → Type 0
AreApart keys = (i j : ℕ) → i < j → j < length keys → get_or keys i 0 ≡ get_or keys j 0 → ⊥
