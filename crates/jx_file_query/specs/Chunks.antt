-- Where an index has the chunks of a text.
use Rattle.std.specs.Prelude.{ℕ, ◌+◌, ◌*◌, min, nat_lt, Option, None, Some, if◌then◌else◌}
use Rattle.jx_summary.specs.declared.span.Span.{Span}
use Rattle.jx_run.specs.Tree.{span}
use Rattle.jx_file_index.specs.declared.index.Index.{Index}

-- where the chunk at a place stands, if the text has one there
abbrev pub chunk_at : Index → ℕ → Option Span
chunk_at index at =
    if nat_lt (at * index.chunk) index.size then Some (span (at * index.chunk) (min (at * index.chunk + index.chunk) index.size)) else None
