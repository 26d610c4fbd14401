use Rattle.std.proofs.Common.{◌≡◌, map, take}
use Rattle.jx_serve.specs.Selections.{extent_of}
use Rattle.jx_serve.proofs.selections.extents_of.Given as goal

-- the spans so far are shown
abbrev pub invariant-loop-span : goal.invariant-loop-span
invariant-loop-span l = l.extents.items ≡ map (extent_of l.encoding l.document.bytes l.kept) (take l.span-index l.spans)
