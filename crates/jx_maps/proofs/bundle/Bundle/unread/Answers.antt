use Rattle.jx_maps.proofs.Building.{Reads-unread, Stands-unread}
use Rattle.jx_maps.proofs.bundle.Bundle.unread.Goals as goal

pub returns-clause-reads : goal.returns-clause-reads
returns-clause-reads c = λ at. rw (c.same_heads.ensures, c.new.ensures.items) (Reads-unread at)

pub returns-clause-stands : goal.returns-clause-stands
returns-clause-stands c = rw (c.same_heads.ensures, c.new.ensures.items) Stands-unread
