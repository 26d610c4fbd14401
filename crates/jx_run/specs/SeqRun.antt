-- A run over part of a JSON text sequence as contracts see it, and when a run is the summary of bytes.
use Rattle.std.specs.Prelude.{◌≡◌, ℕ, List, [], ◌∷◌, ◌++◌, Option, None, Some, map, nat_lt, if◌then◌else◌}
use Rattle.jx_summary.specs.declared.span.Span.{Span}
use Rattle.jx_run.specs.Elements.{Part}
use Rattle.jx_run.specs.Parted as parted
use Rattle.jx_run.specs.Started.{StartedValue, IsStarted}
use Rattle.jx_run.specs.TextRun.{TextRunValue, IsTextRun, text_span}

-- parts are text runs, and of a finished part its reading is kept
abbrev pub MarkedValue : Type 0
MarkedValue = parted.MarkedValue TextRunValue StartedValue

abbrev pub SeqRunValue : Type 0
SeqRunValue = parted.PartedValue TextRunValue StartedValue

abbrev pub last_run : TextRunValue → Option MarkedValue → TextRunValue
last_run = parted.last_piece

abbrev pub sequence_span : SeqRunValue → Span
sequence_span = parted.parted_span text_span

-- the reading of a part as a whole text, within the depth
pub record IsReading (limit : ℕ) (p : Part) (s : StartedValue) : Type 0 where
  pub start : s.span.start ≡ p.at
  pub depth : s.depth ≡ limit
  pub of : IsStarted p.bytes s

abbrev pub reading : parted.Meaning TextRunValue StartedValue
reading = parted.meaning text_span (λ r. r.depth) (λ r bytes. IsTextRun bytes r) IsReading

-- so it is with each part between two neighbouring separators that is not empty, in order; the last part goes on to the end
abbrev pub IsMarked : ℕ → List Part → MarkedValue → Type 0
IsMarked = parted.IsMarked reading

abbrev pub IsSummary : List ℕ → TextRunValue → Option MarkedValue → Type 0
IsSummary = parted.IsSummary reading

abbrev pub IsSeqRun : List ℕ → SeqRunValue → Type 0
IsSeqRun = parted.IsParted reading

-- the span, unless it is empty
abbrev pub filled_span : Span → List Span
filled_span s = if nat_lt s.start s.end then s ∷ [] else []

-- the spans of the elements in the bytes of a run, as the run shows them
abbrev pub element_spans : TextRunValue → Option MarkedValue → List Span
element_spans before None = filled_span (text_span before)
element_spans before (Some m) = filled_span (text_span before) ++ (map (λ (s : StartedValue). s.span) m.done ++ filled_span (text_span m.after))
