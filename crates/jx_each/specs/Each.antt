-- A maker of lines as contracts see it, and what it has taken.
use Rattle.std.specs.Prelude.{◌≡◌, ℕ, List, ◌++◌, take, Option, Some, None}
use Rattle.jx_run.specs.Reader.{ReaderValue, HasRead}
use Rattle.jx_run.specs.Settings.{IsLongestBeginningBy}
use Rattle.jx_index.specs.Pointers.{tokens}
use Rattle.jx_each.specs.declared.content.LineContent.{LineContent}
use Rattle.jx_each.specs.declared.content.LineContent.TheVariants.{Alone}
use Rattle.jx_each.specs.declared.stand.LineStand.{LineStand}
use Rattle.jx_each.specs.Machine.{aimed, begun, run}

pub record EachValue : Type 0 where
  -- the reader of the same bytes
  pub reader : ReaderValue
  -- the units of the pointer's tokens
  pub path : List (List ℕ)
  -- the content of each line
  pub content : LineContent
  -- where the byte after them stands; none when out of memory
  pub stand : Option LineStand
  -- the lines that wait, and what is kept of the element or the name after them
  pub ready : List ℕ
  pub part : List ℕ

-- it has taken these bytes of an input, from its start, and made these lines of them before those that wait
pub record HasTakenBy (content : LineContent) (pointer bytes given : List ℕ) (each : EachValue) : Type 0 where
  pub read : HasRead bytes each.reader
  pub at_start : each.reader.start ≡ 0
  pub path_is : each.path ≡ tokens pointer
  pub content_is : each.content ≡ content
  pub k : ℕ
  pub longest : IsLongestBeginningBy each.reader.settings bytes k
  pub stand : LineStand
  pub stands : each.stand ≡ Some stand
  pub made : record { stand = stand; lines = given ++ each.ready; part = each.part } ≡ run (aimed content (tokens pointer)) begun (take k bytes)

-- the same where values alone are written
abbrev pub HasTaken : List ℕ → List ℕ → List ℕ → EachValue → Type 0
HasTaken pointer bytes given each = HasTakenBy Alone pointer bytes given each

-- out of memory: every further slice fails
abbrev pub HasFailed : EachValue → Type 0
HasFailed each = each.stand ≡ None
