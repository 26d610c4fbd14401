-- The values around an offset, collected in one pass through the token starts and ends of a text.
use Rattle.std.specs.Prelude.{◌≡◌, ℕ, suc, List, [], ◌∷◌, ◌++◌, min, length, take, drop, reverse, Option, None, Some, Bool, true, false, cond, if◌then◌else◌}
use Rattle.std.specs.List.{filter}
use Rattle.jx_lex.specs.declared.kind.Kind.{Kind}
use Rattle.jx_lex.specs.declared.kind.Kind.TheVariants as kind
use Rattle.jx_lex.specs.declared.alphabet.mark.MarkKind.{MarkKind}
use Rattle.jx_lex.specs.declared.alphabet.mark.MarkKind.TheVariants as mark
use Rattle.jx_summary.specs.declared.span.Span.{Span}
use Rattle.jx_run.specs.Tree.{span}
use Rattle.jx_index.specs.declared.row.Row.{Row}
use Rattle.jx_index.specs.declared.builder.Opened.{Opened}
use Rattle.jx_index.specs.inside.Building.{Building, with_end}
use Rattle.jx_around.specs.Around.{is_around}
use Rattle.jx_around.specs.declared.collector.Level.{Level}
use Rattle.jx_around.specs.declared.collector.Collector.{Collector}

-- the state of a collector, the open containers innermost first
pub record Collecting : Type 0 where
  pub offset : ℕ
  pub number : ℕ
  pub name : Option Span
  pub levels : List Level
  pub ended : List Row

abbrev pub collecting : Collector → Collecting
collecting k = record { offset = k.offset; number = k.number; name = k.name; levels = reverse k.opened.items; ended = k.ended.items }

abbrev pub nothing_collected : ℕ → Collecting
nothing_collected offset = record { offset = offset; number = 0; name = None; levels = []; ended = [] }

abbrev pub parent_in : List Level → Option ℕ
parent_in [] = None
parent_in (top ∷ outer) = Some top.number

abbrev pub place_in : List Level → ℕ
place_in [] = 0
place_in (top ∷ outer) = top.count

-- with one more child in the innermost open container
abbrev pub more_in : List Level → List Level
more_in [] = []
more_in (top ∷ outer) = record top { count = suc top.count } ∷ outer

abbrev pub row_next : Kind → Span → Collecting → Row
row_next kind span c = record { kind = kind; span = span; parent = parent_in c.levels; place = place_in c.levels; name = c.name }

-- a value has begun
abbrev pub counted : Collecting → Collecting
counted c = record c { number = suc c.number; name = None; levels = more_in c.levels }

abbrev pub with_next : Kind → Span → Collecting → Collecting
with_next kind span c = record c { ended = c.ended ++ filter (is_around c.offset) (row_next kind span c ∷ []) }

-- a value of one token
abbrev pub with_leaf : Kind → Span → Collecting → Collecting
with_leaf kind span c = counted (with_next kind span c)

abbrev pub level_next : Kind → Bool → ℕ → Collecting → Level
level_next kind is_object at c = record { row = row_next kind (span at (suc at)) c; number = c.number; is_object = is_object; count = 0; base = length c.ended }

-- a container begins
abbrev pub with_level : Kind → Bool → ℕ → Collecting → Collecting
with_level kind is_object at c =
    record { offset = c.offset; number = suc c.number; name = None; levels = level_next kind is_object at c ∷ more_in c.levels; ended = c.ended }

abbrev pub inserted : ℕ → Row → List Row → List Row
inserted at row rows = take at rows ++ (row ∷ drop at rows)

abbrev pub put_in : ℕ → Row → ℕ → List Row → List Row
put_in offset row base ended = if is_around offset row then inserted (min base (length ended)) row ended else ended

-- the innermost open container ends
abbrev pub end_level : ℕ → Collecting → List Level → Collecting
end_level end c [] = c
end_level end c (top ∷ outer) = record c { levels = outer; ended = put_in c.offset (with_end end top.row) top.base c.ended }

abbrev pub without_level : ℕ → Collecting → Collecting
without_level end c = end_level end c c.levels

abbrev pub is_name_next : List Level → Option Span → Bool
is_name_next (top ∷ outer) None = top.is_object
is_name_next _ _ = false

abbrev pub with_string : Span → Collecting → Collecting
with_string span c = cond (is_name_next c.levels c.name) (record c { name = Some span }) (with_leaf kind.String span c)

-- a token start at an offset, and its end where it has one
abbrev pub on_token : MarkKind → ℕ → ℕ → Collecting → Collecting
on_token mark.OpenArray at end c = with_level kind.Array false at c
on_token mark.OpenObject at end c = with_level kind.Object true at c
on_token mark.CloseArray at end c = without_level (suc at) c
on_token mark.CloseObject at end c = without_level (suc at) c
on_token mark.Colon at end c = c
on_token mark.Comma at end c = c
on_token mark.String at end c = with_string (span at end) c
on_token mark.Number at end c = with_leaf kind.Number (span at end) c
on_token mark.True at end c = with_leaf kind.True (span at end) c
on_token mark.False at end c = with_leaf kind.False (span at end) c
on_token mark.Null at end c = with_leaf kind.Null (span at end) c

-- ---- how it follows the rows that are built

-- an open container is the same in both
pub record IsLevel (l : Level) (o : Opened) (before front : List Row) : Type 0 where
  pub row_is : o.row ≡ length before
  pub number_is : l.number ≡ length before
  pub base_is : l.base ≡ length front
  pub object_is : l.is_object ≡ o.is_object
  pub count_is : l.count ≡ o.count

-- Of rows, some are of open containers. The others that are around the offset have been collected, in order. Rows and what
-- is collected are cut where the innermost container begins, and before it there is one container fewer.
pub data Lie (offset : ℕ) : List Row → List Level → List Opened → List Row → Type 0 where
  none_open : {rows ended : List Row} → ended ≡ filter (is_around offset) rows → Lie offset rows [] [] ended
  one_open : {rows ended before front : List Row} {l : Level} {o : Opened} {levels : List Level} {opened : List Opened} (within : List Row)
      → Lie offset before levels opened front → IsLevel l o before front → rows ≡ before ++ (l.row ∷ within)
      → ended ≡ front ++ filter (is_around offset) within → Lie offset rows (l ∷ levels) (o ∷ opened) ended

pub record Follows (offset : ℕ) (c : Collecting) (b : Building) : Type 0 where
  pub offset_is : c.offset ≡ offset
  pub number_is : c.number ≡ length b.rows
  pub name_is : c.name ≡ b.name
  pub lie : Lie offset b.rows c.levels b.opened c.ended
