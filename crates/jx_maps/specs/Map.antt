-- A chunk map as contracts see it.
use Rattle.std.specs.Prelude.{◌≡◌, ◌⊎◌, ℕ, ◌+◌, ◌≤◌, ◌<◌, List, [], ◌∷◌, ◌++◌, length, map}
use Rattle.jx_lex.specs.declared.alphabet.state.LexState.{LexState}
use Rattle.jx_lex.specs.Lex.{LexExit, Track, lex}
use Rattle.jx_lex.specs.declared.alphabet.mark.Mark.{Mark}
use Rattle.jx_maps.specs.declared.link.Link.{Link}
use Rattle.jx_maps.specs.Follow.{SegmentValue, follow, head, IsIn, AreIn, linked, linked_segments}

pub record Map : Type 0 where
  pub start : ℕ
  pub end : ℕ
  pub heads : List Link
  pub segments : List SegmentValue

-- the track from a state
abbrev pub track : Map → LexState → Track
track m s = follow m.segments (head m.heads s)

-- all that the map leads to is there
pub record IsLinked (m : Map) : Type 0 where
  pub all : length m.heads ≡ 32
  pub heads : (s : LexState) → IsIn (length m.segments) (head m.heads s)
  pub segments : AreIn m.segments

-- the map of these bytes
pub record IsOf (bytes : List ℕ) (m : Map) : Type 0 where
  pub long : m.end ≡ m.start + length bytes
  pub tracks : (s : LexState) → track m s ≡ lex s m.start bytes

-- two states, in one of which each track ends that meets no fault
pub record EndsInTwo (m : Map) : Type 0 where
  pub one : LexState
  pub other : LexState
  pub all : (s t : LexState) → (track m s).exit ≡ LexExit.state t → (t ≡ one) ⊎ (t ≡ other)

abbrev pub stored : List SegmentValue → ℕ
stored [] = 0
stored (p ∷ ps) = length p.marks + stored ps

-- token starts in rising order, each of a byte from one offset up to another
abbrev pub MarksIn : ℕ → ℕ → List Mark → Type 0
MarksIn from to [] = Unit {0}
MarksIn from to (m ∷ ms) = (from ≤ m.at) × (m.at < to) × MarksIn (m.at + 1) to ms

-- the token starts of each segment
abbrev pub ArePlaced : ℕ → ℕ → List SegmentValue → Type 0
ArePlaced from to [] = Unit {0}
ArePlaced from to (p ∷ ps) = MarksIn from to p.marks × ArePlaced from to ps

-- both maps, one after the other
abbrev pub joined_map : Map → Map → Map
joined_map l r =
    record {
      start = l.start;
      end = r.end;
      heads = map (linked r.heads (length l.segments)) l.heads;
      segments = linked_segments r.heads l.segments ++ r.segments;
    }
