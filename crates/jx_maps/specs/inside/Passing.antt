-- A segment reads on, and bytes that change nothing for it.
use Rattle.std.specs.Prelude.{ℕ, suc, List, [], ◌∷◌}
use Rattle.jx_maps.specs.declared.link.Link.{Link}
use Rattle.jx_maps.specs.declared.link.Link.TheVariants.{Ahead, State, Fault}
use Rattle.jx_maps.specs.Follow.{SegmentValue}
use Rattle.jx_maps.specs.inside.Step.{read_segment}
use Rattle.jx_lex.specs.Uneventful.{AllKeep, Leads}

-- a segment after these bytes
abbrev pub read_bytes : ℕ → List ℕ → SegmentValue → SegmentValue
read_bytes at [] p = p
read_bytes at (b ∷ bs) p = read_bytes (suc at) bs (read_segment at b p)

-- these bytes change nothing
abbrev pub KeptBy : Link → List ℕ → Type 0
KeptBy (State s) bytes = AllKeep s bytes
KeptBy (Ahead k) bytes = Unit {0}
KeptBy (Fault at) bytes = Unit {0}

-- these bytes lead back to where it stands, with no event
abbrev pub LedBy : Link → List ℕ → Type 0
LedBy (State s) bytes = Leads s bytes s
LedBy (Ahead k) bytes = Unit {0}
LedBy (Fault at) bytes = Unit {0}

-- these bytes change none of the segments
abbrev pub AllKept : List ℕ → List SegmentValue → Type 0
AllKept bytes [] = Unit {0}
AllKept bytes (p ∷ ps) = KeptBy p.next bytes × AllKept bytes ps
