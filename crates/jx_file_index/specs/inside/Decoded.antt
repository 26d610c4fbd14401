-- The part of an index's head that was read.
use Rattle.std.specs.Prelude.{◌≡◌, Option, None, Some}
use Rattle.jx_file_index.specs.declared.index_decoding.Head.{Head}
use Rattle.jx_file_index.specs.declared.index.Index.{Index}

-- a head says what an index does
pub record IsHead (i : Index) (h : Head) : Type 0 where
  pub settings : h.settings ≡ i.settings
  pub chunk : h.chunk ≡ i.chunk
  pub size : h.size ≡ i.size
  pub top : h.top ≡ i.top

-- the head was read
abbrev pub IsHeadOf : Index → Option Head → Type 0
IsHeadOf i None = ⊥
IsHeadOf i (Some h) = IsHead i h
