-- Blocks of an array in which no bracket and no white space stands outside of strings, and no comma in one.
use Rattle.std.specs.Prelude.{◌≡◌, ◌-◌, ◌<◌, ◌≤◌, ◌==◌, if◌then◌else◌, ℕ, suc, List, get_or, Bool, true, false}
use Rattle.jx_lex.specs.inside.Bits.{bit}
use Rattle.jx_each.specs.declared.blocks.Words.{Words}

abbrev pub is_comma : ℕ → Bool
is_comma byte = byte == 0x2c

-- a comma after an element becomes a line feed
abbrev pub fed : ℕ → ℕ
fed byte = if byte == 0x2c then 0x0a else byte

-- its commas alone do anything, each of them follows an element, and the last one before a place
pub record IsFlat (block : List ℕ) (words : Words) (begun : Bool) (end : ℕ) : Type 0 where
  pub whole : words.len ≡ 64
  pub brackets : (k : ℕ) → bit words.brackets k ≡ false
  pub gaps : (k : ℕ) → bit words.gaps k ≡ false
  pub borders : (k : ℕ) → k < 64 → bit words.borders k ≡ is_comma (get_or block k 0)
  pub first : is_comma (get_or block 0 0) ≡ true → begun ≡ true
  pub apart : (k : ℕ) → suc k < 64 → is_comma (get_or block (suc k) 0) ≡ true → is_comma (get_or block k 0) ≡ false
  pub within : end ≤ 64
  pub behind : (k : ℕ) → end ≤ k → k < 64 → is_comma (get_or block k 0) ≡ false
  pub last : 0 < end → is_comma (get_or block (end - 1) 0) ≡ true
