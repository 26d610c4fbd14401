-- Names by where they stand in a text.
use Rattle.std.specs.Prelude.{ℕ, List, Option, None, Some}
use Rattle.std.specs.List.Sorted.{IsSortedBy, IsStableBy}
use Rattle.std.specs.Ordering.{nat_cmp, is_lt}
use Rattle.std.specs.Cmp.Lexicographic.{slice_cmp}
use Rattle.jx_summary.specs.declared.span.Span.{Span}
use Rattle.jx_run.specs.declared.texts.verdict.Refusal.TheVariants.{RepeatedName}
use Rattle.jx_run.specs.declared.texts.verdict.Verdict.{Verdict}
use Rattle.jx_run.specs.declared.texts.verdict.Verdict.TheVariants.{Accepted, Refused}
use Rattle.jx_index.specs.Repeats.{IsRepeated}
use Rattle.jx_index.specs.Units.{units_at}
use Rattle.jx_index.specs.inside.Ties.{tie_start, IsTie}

abbrev pub start_at : Span → Option ℕ
start_at name = Some name.start

-- at this offset begins one of the names that is not the first, by place, among those of its units
abbrev pub IsRepeatedName : List ℕ → List Span → ℕ → Type 0
IsRepeatedName text names at = IsRepeated (units_at text) start_at names at

-- where the second name begins, if it has the units of the first
abbrev pub name_tie : List ℕ → Span → Span → Option ℕ
name_tie text a b = tie_start (units_at text) start_at a b

-- at this offset begins a name that has the units of the one before it in the list
abbrev pub IsNameTie : List ℕ → List Span → ℕ → Type 0
IsNameTie text names at = IsTie (units_at text) start_at names at

-- by rising units; equal names by place
pub record IsInUnitOrder (text : List ℕ) (names sorted : List Span) : Type 0 where
  pub rising : IsSortedBy (λ a b. is_lt (slice_cmp nat_cmp (units_at text a) (units_at text b))) sorted
  pub stable : IsStableBy (λ a b. is_lt (slice_cmp nat_cmp (units_at text a) (units_at text b))) names sorted

-- the verdict on a text, unless a name is refused
abbrev pub accepted_unless : Option ℕ → Verdict
accepted_unless None = Accepted
accepted_unless (Some at) = Refused (RepeatedName at)
