-- A text that is read chunk by chunk.
use Rattle.std.specs.Prelude.{◌≡◌, ℕ, ◌+◌, ◌≤◌, List, ◌++◌, length, take}
use Rattle.jx_run.specs.Reader.{ReaderValue, HasRead}

-- the reader went on with the text up to this offset
pub record GoesOnTo (text : List ℕ) (done : ℕ) (old new : ReaderValue) : Type 0 where
  pub within : done ≤ length text
  pub settings : new.settings ≡ old.settings
  pub start : new.start ≡ old.start
  pub count : new.count ≡ old.count + done
  pub reads : (bytes : List ℕ) → HasRead bytes old → HasRead (bytes ++ take done text) new
