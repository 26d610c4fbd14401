-- Bytes of a JSON text sequence, parted at the record separators in them, and when a run keeps what they lead to.
use Rattle.std.specs.Prelude.{◌≡◌, ◌<◌, ℕ, List, [], ◌∷◌, ◌++◌, Option, None, Some}
use Rattle.std.specs.List.{AllZip}
use Rattle.jx_summary.specs.declared.span.Span.{Span}
use Rattle.jx_run.specs.Elements.{Part, before_separator, after_separators, filled}
use Rattle.jx_run.specs.Tree.{span}

-- the parts after the first separator: the summaries of those that a further separator ends, and the part after the last separator
pub record MarkedValue (P F : Type 0) : Type 0 where
  pub done : List F
  pub after : P

-- the part before the first separator, and the rest where there is one
pub record PartedValue (P F : Type 0) : Type 0 where
  pub before : P
  pub marked : Option (MarkedValue P F)

-- how a part is read: its span, its depth, and the bytes that it is the summary of; and when what is kept of a finished
-- part is right for that part, within a depth
pub record Meaning (P F : Type 0) : Type 1 where
  pub span : P → Span
  pub depth : P → ℕ
  pub is_of : P → List ℕ → Type 0
  pub is_finished : ℕ → Part → F → Type 0

abbrev pub meaning : {P F : Type 0} → (P → Span) → (P → ℕ) → (P → List ℕ → Type 0) → (ℕ → Part → F → Type 0) → Meaning P F
meaning spans limit is_of is_finished = record { span = spans; depth = limit; is_of = is_of; is_finished = is_finished }

abbrev pub last_piece : {P F : Type 0} → P → Option (MarkedValue P F) → P
last_piece before None = before
last_piece before (Some m) = m.after

abbrev pub parted_span : {P F : Type 0} → (P → Span) → PartedValue P F → Span
parted_span spans run = span (spans run.before).start (spans (last_piece run.before run.marked)).end

-- of each part between two neighbouring separators that is not empty what is kept is right, in order; the last part goes on
-- to the end
pub record IsMarked {P F : Type 0} (m : Meaning P F) (limit : ℕ) (behind : List Part) (v : MarkedValue P F) : Type 0 where
  pub between : List Part
  pub last : Part
  pub parts : behind ≡ between ++ last ∷ []
  pub done : AllZip (m.is_finished limit) (filled between) v.done
  pub marked : 0 < last.at
  pub start : (m.span v.after).start ≡ last.at
  pub depth : m.depth v.after ≡ limit
  pub after : m.is_of v.after last.bytes

-- without a separator the part of all bytes, else that of the bytes before the first separator, and the rest
abbrev pub IsSummary : {P F : Type 0} → Meaning P F → List ℕ → P → Option (MarkedValue P F) → Type 0
IsSummary m bytes before None = (after_separators (m.span before).start bytes ≡ []) × m.is_of before bytes
IsSummary m bytes before (Some v) = m.is_of before (before_separator bytes) × IsMarked m (m.depth before) (after_separators (m.span before).start bytes) v

abbrev pub IsParted : {P F : Type 0} → Meaning P F → List ℕ → PartedValue P F → Type 0
IsParted m bytes run = IsSummary m bytes run.before run.marked
