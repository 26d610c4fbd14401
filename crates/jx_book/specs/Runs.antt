-- A run with its text, and the runs in an accumulator, as contracts see them.
use Rattle.std.specs.Prelude.{◌≡◌, ℕ, ◌+◌, ◌<◌, List, map, sum_by, All, AllPairs}
use Rattle.jx_summary.specs.declared.span.Span.{Span}
use Rattle.jx_book.specs.Spans.{span_len, Before}

-- a run, the bytes of the text that it carries, its span in that text, and its depth
pub record HeldValue (S : Type 0) : Type 0 where
  pub run : S
  pub text : List ℕ
  pub span : Span
  pub depth : ℕ

abbrev pub held : {S : Type 0} → S → List ℕ → Span → ℕ → HeldValue S
held run text span depth = record { run = run; text = text; span = span; depth = depth }

abbrev pub run_len : {S : Type 0} → HeldValue S → ℕ
run_len h = span_len h.span

abbrev pub spans_of : {S : Type 0} → List (HeldValue S) → List Span
spans_of runs = map (λ r. r.span) runs

-- runs, and the bytes put and taken out
pub record StateValue (S : Type 0) : Type 0 where
  pub runs : List (HeldValue S)
  pub put : ℕ
  pub taken : ℕ

abbrev pub state : {S : Type 0} → List (HeldValue S) → ℕ → ℕ → StateValue S
state runs put taken = record { runs = runs; put = put; taken = taken }

-- runs are not empty and stand in rising order, no two overlapping or touching
pub record IsApart {S : Type 0} (runs : List (HeldValue S)) : Type 0 where
  pub filled : All (λ r. r.span.start < r.span.end) runs
  pub apart : AllPairs (λ a b. Before a.span b.span) runs

-- the runs are apart, and they cover the bytes that were put and not taken out
pub record IsLawful {S : Type 0} (s : StateValue S) : Type 0 where
  pub runs : IsApart s.runs
  pub covered : s.taken + sum_by run_len s.runs ≡ s.put
