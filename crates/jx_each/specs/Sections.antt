-- Lines that were made of some bytes of a slice, before it is known where these stand.
use Rattle.std.specs.Prelude.{◌≡◌, ◌+◌, ◌-◌, ◌≤◌, ℕ, List, [], length, slice_range}
use Rattle.jx_each.specs.declared.section.Section.{Section}
use Rattle.jx_each.specs.Machine.{Aim, run}
use Rattle.jx_each.specs.inside.Paths.{count_in}

-- the bytes of its span lead to these lines, where the first one stands there and the front was kept before it
pub record IsSection (aim : Aim) (slice : List ℕ) (s : Section) : Type 0 where
  pub ordered : s.span.start ≤ s.span.end
  pub within : s.span.end ≤ length slice
  pub made : record { stand = s.last; lines = s.lines.items; part = s.part.items }
      ≡ run aim (record { stand = s.first; lines = []; part = s.front.items }) (slice_range slice s.span.start s.span.end)
  -- no more containers are open, and no more elements were passed, than bytes were read
  pub height : s.last.height ≤ s.first.height + (s.span.end - s.span.start)
  pub count : count_in s.last.stage ≤ count_in s.first.stage + (s.span.end - s.span.start)
