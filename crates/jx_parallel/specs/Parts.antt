-- A reading that goes on in a text, part by part.
use Rattle.std.specs.Prelude.{ℕ, List, ◌++◌, Option}
use Rattle.jx_parallel.specs.Offsets.{IsContent, StandThere}

-- the bytes that a reader has read, and what was given of its reports
abbrev pub Readings : Type 0 → Type 0 → Type 1
Readings Given Reader = List ℕ → Given → Reader → Type 0

-- after any bytes that it had read from a text's start, it has read some more; where the text is known, they are those that come next
abbrev pub GoesOn : {Given Reader : Type 0} → Option (List ℕ) → Readings Given Reader → Reader → Reader → Type 0
GoesOn {Given} known has_read old new =
    (xs : List ℕ) (given : Given) → StandThere known 0 xs → has_read xs given old → (more : List ℕ) × StandThere known 0 (xs ++ more) × has_read (xs ++ more) given new

-- it has read a whole text; where the content is known, that is the text
pub record HasReadAll {Reader : Type 0} (known : Option (List ℕ)) (has_read : List ℕ → Reader → Type 0) (reader : Reader) : Type 0 where
  pub text : List ℕ
  pub whole : IsContent known text
  pub read : has_read text reader
