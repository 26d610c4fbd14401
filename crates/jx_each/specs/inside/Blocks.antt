-- Words that say where a block of 64 bytes has strings and escapes: bit k stands for byte k.
use Rattle.std.specs.Prelude.{◌≡◌, ◌-◌, ◌<◌, ◌≤◌, ℕ, zero, suc, List, get_or, Bool, true, false}
use Rattle.jx_compact.specs.declared.place.Place.{Place}
use Rattle.jx_compact.specs.declared.place.Place.TheVariants.{Between, Inside, Escaped}
use Rattle.jx_compact.specs.Compact.{next}
use Rattle.jx_lex.specs.inside.Bits.{bit}
use Rattle.jx_each.specs.declared.blocks.Words.{Words}
use Rattle.jx_each.specs.inside.Runs.{is_blank, is_border, is_bracket}

abbrev pub placed : Bool → Place
placed true = Inside
placed false = Between

-- the bit of byte k, where bit k of a word is that of the byte after it
abbrev pub in_at : Bool → ℕ → ℕ → Bool
in_at first word zero = first
in_at first word (suc k) = bit word k

-- where a byte stands, by whether it is escaped, and whether it stands in a string
abbrev pub place_by : Bool → Bool → Place
place_by true inside = Escaped
place_by false inside = placed inside

-- where byte k stands
abbrev pub place_at : Bool → Words → ℕ → Place
place_at inside words k = place_by (in_at false words.escapes k) (in_at inside words.strings k)

-- the bits of a word that are set are those of the bytes of a set outside of strings; these begin and end no string
pub record IsMarked (set : ℕ → Bool) (block : List ℕ) (inside : Bool) (words : Words) (word : ℕ) : Type 0 where
  pub still : (k : ℕ) → k < 64 → bit word k ≡ false → place_at inside words k ≡ Between → set (get_or block k 0) ≡ false
  pub outside : (k : ℕ) → k < 64 → bit word k ≡ true → (place_at inside words k ≡ Between) × (place_at inside words (suc k) ≡ Between) × (set (get_or block k 0) ≡ true)

-- the first byte is not escaped, nor is the one after those that are looked at
pub record IsTold (block : List ℕ) (inside : Bool) (words : Words) : Type 0 where
  pub goes : (k : ℕ) → k < 64 → next (place_at inside words k) (get_or block k 0) ≡ place_at inside words (suc k)
  pub brackets : IsMarked is_bracket block inside words words.brackets
  pub borders : IsMarked is_border block inside words words.borders
  pub gaps : IsMarked is_blank block inside words words.gaps
  pub bounds : (63 ≤ words.len) × (words.len ≤ 64)
  pub ends : bit words.escapes (words.len - 1) ≡ false
