-- The invariant of an order.
use Rattle.std.specs.Prelude.{◌≤◌, ⊤}
use Rattle.jx_command.specs.declared.order.Order.{Order}
use Rattle.jx_command.specs.declared.order.Order.TheVariants.{Report, Parts, Values, Each, Lines, Live, Texts, Save, Split}

-- the chunks that are read have at least a byte each, and a container has 1 to 65,536 parts
abbrev pub HasPieces : Order → Type 0
HasPieces (Report request) = 1 ≤ request.command.piece
HasPieces (Parts order) = ⊤
HasPieces (Values order) = 1 ≤ order.task.piece
HasPieces (Each order) = 1 ≤ order.piece
HasPieces (Lines order) = 1 ≤ order.piece
HasPieces (Live order) = ⊤
HasPieces (Texts order) = ⊤
HasPieces (Save order) = ⊤
HasPieces (Split order) = (1 ≤ order.parts) × (order.parts ≤ 65536)
