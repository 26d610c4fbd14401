-- The chunk that is kept.
use Rattle.std.specs.Prelude.{◌≡◌, ℕ, ◌-◌, List, Option, length}
use Rattle.jx_file_index.specs.declared.index.Index.{Index}
use Rattle.jx_cmd_index.specs.declared.held_chunk.HeldChunk.{HeldChunk}
use Rattle.jx_cmd_index.specs.inside.Texts.{AreBytesIn}

-- bytes that stand there in each text with the index
pub record IsHeldIn (known : Option (List ℕ)) (index : Index) (held : HeldChunk) : Type 0 where
  pub long : length held.bytes.items ≡ held.span.end - held.span.start
  pub bytes : AreBytesIn known index held.span.start held.span.end held.bytes.items
