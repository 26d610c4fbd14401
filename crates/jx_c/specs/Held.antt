-- The memory that a handle of C owns, of a document or of an index.
use Rattle.std.specs.Prelude.{Option, Some, None}
use Rattle.std.specs.contracts.impls.GlobalAllocator.TheImpl.{ghosts}
use Rattle.std.specs.declared.alloc.Global.{Global}
use Rattle.std_alloc.specs.Box.Ownership.{box_owns}
use base.Fml.{Fml, feq}
use denote.RattleType.{RattleType}
use denote.RawPtr.{Ptr, null_ptr}

-- the allocator is the C library's
abbrev pub heap : Global
heap = record { memory = record { seal = tt } }

-- without a value the pointer is null; else what a box of the value owns: its memory, and the right to free it
abbrev pub held_at : (R : RattleType) → Ptr → Option R.Denot → Fml
held_at R p None = feq Ptr p null_ptr
held_at R p (Some x) = box_owns (ghosts.dealloc_token heap) R p x
