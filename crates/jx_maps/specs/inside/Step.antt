-- One more byte.
use Rattle.std.specs.Prelude.{ℕ, List, [], ◌∷◌, ◌++◌, Option, Some, None, map, slice_set as set, Bool, false, count_by, ◌==◌}
use Rattle.jx_lex.specs.declared.alphabet.state.LexState.{LexState}
use Rattle.jx_lex.specs.Lex.{LexExit, with_mark, with_end}
use Rattle.jx_lex.specs.Moves.{move}
use Rattle.jx_maps.specs.declared.link.Link.{Link}
use Rattle.jx_maps.specs.declared.link.Link.TheVariants.{Ahead, State, Fault}
use Rattle.jx_lex.specs.Ordinal.{ordinal, all_states}
use Rattle.jx_maps.specs.Follow.{SegmentValue, linked_segments}

abbrev pub link_of : ℕ → Option LexState → Link
link_of at None = Fault at
link_of at (Some next) = State next

-- where a reading ends
abbrev pub link_at : LexExit → Link
link_at (LexExit.state s) = State s
link_at (LexExit.fault at) = Fault at

abbrev pub read_from : ℕ → ℕ → SegmentValue → Link → SegmentValue
read_from at byte p (State s) =
    record {
      marks = p.marks ++ with_mark ((move s byte).begin) at [];
      ends = p.ends ++ with_end ((move s byte).end) at [];
      next = link_of at ((move s byte).next);
    }
read_from at byte p (Ahead k) = p
read_from at byte p (Fault f) = p

-- a segment after one more byte, where it is the end of a track
abbrev pub read_segment : ℕ → ℕ → SegmentValue → SegmentValue
read_segment at byte p = read_from at byte p p.next

-- a segment with nothing read
abbrev pub opening : LexState → SegmentValue
opening s = record { marks = []; ends = []; next = State s }

-- the heads of a map of no bytes in which one state has a segment
abbrev pub meeting_heads : LexState → List Link
meeting_heads s = set (map State all_states) (ordinal s) (Ahead 0)

-- the segments that stand in the state go on in one segment
abbrev pub met : LexState → List SegmentValue → List SegmentValue
met s ps = linked_segments (meeting_heads s) ps ++ opening s ∷ []

abbrev pub state_is : LexState → Link → Bool
state_is s (State t) = ordinal t == ordinal s
state_is s (Ahead k) = false
state_is s (Fault at) = false

abbrev pub stands_in : LexState → SegmentValue → Bool
stands_in s p = state_is s p.next

-- how many segments stand in a state
abbrev pub held_by : LexState → List SegmentValue → ℕ
held_by s ps = count_by (stands_in s) ps
