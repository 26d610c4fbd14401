-- Segments of which those that nothing reaches are emptied.
use Rattle.std.specs.Prelude.{◌≡◌, Bool, true, false, List, [], ◌∷◌, get_or, slice_set as set}
use Rattle.jx_maps.specs.declared.link.Link.{Link}
use Rattle.jx_maps.specs.declared.link.Link.TheVariants.{Ahead, State, Fault}
use Rattle.jx_maps.specs.Follow.{SegmentValue}
use Rattle.jx_lex.specs.Ordinal.{ordinal}

-- a segment that this leads to is among those that are reached
abbrev pub IsReached : List Bool → Link → Type 0
IsReached reached (Ahead k) = get_or reached k false ≡ true
IsReached reached (State s) = Unit {0}
IsReached reached (Fault at) = Unit {0}

-- where this leads is reached too
abbrev pub with_reached : Link → List Bool → List Bool
with_reached (Ahead k) reached = set reached k true
with_reached (State s) reached = reached
with_reached (Fault at) reached = reached

abbrev pub emptied : SegmentValue → SegmentValue
emptied p = record p { marks = []; ends = [] }

-- the segments from the first on, where so many of them are reached from in front of them
abbrev pub pruned : List Bool → List SegmentValue → List SegmentValue
pruned reached [] = []
pruned [] (p ∷ ps) = emptied p ∷ pruned [] ps
pruned (true ∷ reached) (p ∷ ps) = p ∷ pruned (with_reached p.next reached) ps
pruned (false ∷ reached) (p ∷ ps) = emptied p ∷ pruned reached ps

-- the states, and the one where this leads out, if it does
abbrev pub with_exit_of : Link → List Bool → List Bool
with_exit_of (State s) live = set live (ordinal s) true
with_exit_of (Ahead k) live = live
with_exit_of (Fault at) live = live
