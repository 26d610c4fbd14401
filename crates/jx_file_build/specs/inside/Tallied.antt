-- The sums of the tokens of a chunk, and a reader that goes on by its bytes.
use Rattle.std.specs.Prelude.{◌≡◌, ℕ, List, ◌++◌, Bool}
use Rattle.jx_lex.specs.declared.alphabet.mark.Mark.{Mark}
use Rattle.jx_run.specs.Reader.{HasRead, ReaderValue}
use Rattle.jx_file_index.specs.declared.sum.Sum.{Sum}
use Rattle.jx_file_index.specs.Chunks.{has_some}
use Rattle.jx_file_index.specs.Sums.{sum_of}

-- these are what token starts and ends lead to
pub record Tells (marks : List Mark) (ends : List ℕ) (sum : Sum) (begins ended : Bool) : Type 0 where
  pub sum_is : sum ≡ sum_of marks
  pub begins_is : begins ≡ has_some marks
  pub ends_is : ended ≡ has_some ends

-- after all bytes that it had read a reader has read these
pub record ReadsOn (old new : ReaderValue) (more : List ℕ) : Type 0 where
  pub settings : new.settings ≡ old.settings
  pub start : new.start ≡ old.start
  pub reads : (bytes : List ℕ) → HasRead bytes old → HasRead (bytes ++ more) new
