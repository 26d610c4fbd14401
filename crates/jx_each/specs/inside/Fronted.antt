-- Parts of a slice, of which some bytes are the front.
use Rattle.std.specs.Prelude.{◌≡◌, ℕ, List, length, take}
use Rattle.jx_each.specs.declared.section.Section.{Section}
use Rattle.jx_each.specs.Machine.{Aim}
use Rattle.jx_each.specs.Sections.{IsSection}

-- it is a part of a slice that begins with these bytes
pub record IsFronted (aim : Aim) (bytes : List ℕ) (s : Section) : Type 0 where
  pub slice : List ℕ
  pub front : bytes ≡ take (length bytes) slice
  pub section : IsSection aim slice s
