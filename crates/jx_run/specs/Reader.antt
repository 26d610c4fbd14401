-- A reader of a text from its start as contracts see it.
use Rattle.std.specs.Prelude.{◌≡◌, ◌==◌, ℕ, ◌+◌, List, length, drop, Option, Some, None, Bool, true, false, if◌then◌else◌}
use Rattle.jx_lex.specs.declared.alphabet.state.LexState.{LexState}
use Rattle.jx_lex.specs.declared.alphabet.state.LexState.TheVariants.{Gap}
use Rattle.jx_reduce.specs.declared.table.expect.Expect.{Expect}
use Rattle.jx_reduce.specs.declared.table.expect.Expect.TheVariants.{Value}
use Rattle.jx_run.specs.declared.texts.settings.FrontMark.{FrontMark}
use Rattle.jx_run.specs.declared.texts.settings.FrontMark.TheVariants as on_mark
use Rattle.jx_run.specs.declared.texts.settings.Settings.{Settings}
use Rattle.jx_run.specs.Front.{agreed}
use Rattle.jx_run.specs.Reading.{TextReading, went, stopped, too_deep, read_text}
use Rattle.jx_run.specs.Settings.{byte_order_mark}

-- the outcome of the bytes of a text, with what may stand in front of it
pub data Outcome : Type 0 where
  -- they are so many bytes, fewer than three, that begin a byte order mark, which may yet be ignored
  in_front : ℕ → Outcome
  -- the reading of the bytes after the front
  reads : TextReading → Outcome

-- where the bytes, which stand from an offset on, begin with so many of a byte order mark's: a token is skipped, and
-- one that was begun and not ended is a fault
abbrev pub read_behind : ℕ → ℕ → ℕ → List ℕ → Outcome
read_behind n limit start bytes =
    if n == 3 then reads (read_text limit (start + 3) (drop 3 bytes))
    else (if n == length bytes then in_front n
    else (if n == 0 then reads (read_text limit start bytes) else reads (stopped (start + n))))

-- reads a text within a depth, a byte order mark refused or ignored
abbrev pub read_by : FrontMark → ℕ → ℕ → List ℕ → Outcome
read_by on_mark.Refused limit start bytes = reads (read_text limit start bytes)
read_by on_mark.Ignored limit start bytes = read_behind (agreed bytes byte_order_mark) limit start bytes

pub record ReaderValue : Type 0 where
  -- its names are ignored
  pub settings : Settings
  -- the offset of the first byte, and how many bytes were read
  pub start : ℕ
  pub count : ℕ
  -- none when out of memory
  pub outcome : Option Outcome

-- these are the bytes that it has read since it began
pub record HasRead (bytes : List ℕ) (reader : ReaderValue) : Type 0 where
  pub count : reader.count ≡ length bytes
  pub outcome : reader.outcome ≡ Some (read_by reader.settings.mark reader.settings.depth reader.start bytes)

-- out of memory: every further slice fails
abbrev pub HasFailed : ReaderValue → Type 0
HasFailed reader = reader.outcome ≡ None

-- a byte order mark may begin or go on with the next byte
pub record IsInFront (reader : ReaderValue) : Type 0 where
  pub ignored : reader.settings.mark ≡ on_mark.Ignored
  pub bytes : ℕ
  pub outcome : reader.outcome ≡ Some (in_front bytes)

-- a fault was met, and no byte after it changes the verdict
abbrev pub is_fault : Option Outcome → Bool
is_fault (Some (in_front n)) = false
is_fault (Some (reads (went s e o))) = false
is_fault (Some (reads (stopped at))) = true
is_fault (Some (reads (too_deep at))) = true
is_fault None = false

-- the lexical state after what was read; in front of a text it is that between tokens
abbrev pub state_behind : Outcome → LexState
state_behind (in_front n) = Gap
state_behind (reads (went s e o)) = s
state_behind (reads (stopped at)) = Gap
state_behind (reads (too_deep at)) = Gap

-- the tokens that may stand next; in front of a text a value
abbrev pub expect_behind : Outcome → Expect
expect_behind (in_front n) = Value
expect_behind (reads (went s e o)) = e
expect_behind (reads (stopped at)) = Value
expect_behind (reads (too_deep at)) = Value
