use Rattle.std.proofs.Common.{take}
use Rattle.std.specs.List.{AllZip}
use Rattle.jx_c.specs.LookUps.{IsPointerOf}
use Rattle.jx_c.specs.declared.texts.all.JxPointer.{JxPointer}
use Rattle.jx_c.proofs.texts.all.pointers_of.Given as goal

-- those before this one are read
abbrev pub invariant-loop-at : goal.invariant-loop-at
invariant-loop-at l = AllZip (λ (p : JxPointer). IsPointerOf p.bytes.now) (take l.at l.pointers) l.all.items
