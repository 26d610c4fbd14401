-- Tracks of some bytes from some states, where more bytes may follow.
use Rattle.std.specs.Prelude.{◌≡◌, not, ◌==◌, ℕ, ◌+◌, ◌≤◌, ◌<◌, true, false, Bool, List, [], ◌∷◌, ◌++◌, length, map, get_or, count_by, slice_set as set, Option, Some, None, is_none, ◌&&◌, if◌then◌else◌}
use Rattle.jx_lex.specs.declared.alphabet.state.LexState.{LexState}
use Rattle.jx_maps.specs.declared.link.Link.{Link}
use Rattle.jx_maps.specs.declared.link.Link.TheVariants.{Ahead, State, Fault}
use Rattle.jx_lex.specs.declared.alphabet.state.Step.{Step}
use Rattle.jx_lex.specs.Moves.{move}
use Rattle.jx_lex.specs.Lex.{lex}
use Rattle.jx_lex.specs.Ordinal.{ordinal, all_states}
use Rattle.jx_maps.specs.Follow.{SegmentValue, follow, head, IsIn, AreIn, linked, linked_segments}
use Rattle.jx_maps.specs.inside.Step.{link_of, read_segment, opening}
use Rattle.jx_maps.specs.Map.{stored, ArePlaced}
use Rattle.jx_maps.specs.Shared.{has, after, shared_from, AllHeld}

-- a bundle as contracts see it; live says of each state whether a track may stand in it
pub record Bundle : Type 0 where
  pub heads : List Link
  pub segments : List SegmentValue
  pub live : List Bool

abbrev pub is_live : List Bool → LexState → Bool
is_live live s = get_or live (ordinal s) false

abbrev pub live_count : List Bool → ℕ
live_count live = count_by (is_live live) all_states

-- a link that stands in a state stands in a live one
abbrev pub LiveAt : List Bool → Link → Type 0
LiveAt live (State s) = is_live live s ≡ true
LiveAt live (Ahead k) = Unit {0}
LiveAt live (Fault at) = Unit {0}

abbrev pub AllLive : List Bool → List SegmentValue → Type 0
AllLive live [] = Unit {0}
AllLive live (p ∷ ps) = LiveAt live p.next × AllLive live ps

-- each live state is one of these
abbrev pub Within : List Bool → List LexState → Type 0
Within live held = (s : LexState) → is_live live s ≡ true → has s held ≡ true

-- the tracks of the bytes, which stand from an offset on, from each of the states in live
pub record IsBundleOf (at : ℕ) (bytes : List ℕ) (live : List Bool) (b : Bundle) : Type 0 where
  pub all : length b.heads ≡ 32
  pub heads : (s : LexState) → IsIn (length b.segments) (head b.heads s)
  pub segments : AreIn b.segments
  pub tracks : (s : LexState) → is_live live s ≡ true → follow b.segments (head b.heads s) ≡ lex s at bytes
  pub counted : (held : List LexState) → Within live held → stored b.segments ≤ shared_from held bytes
  pub placed : ArePlaced at (at + length bytes) b.segments

-- where the tracks are after the bytes
pub record Stands (bytes : List ℕ) (live : List Bool) (b : Bundle) : Type 0 where
  pub all : length b.live ≡ 32
  pub heads : (s : LexState) → LiveAt b.live (head b.heads s)
  pub segments : AllLive b.live b.segments
  pub held : (held : List LexState) → Within live held → Within b.live (after held bytes)

-- both bundles, one after the other
abbrev pub joined_bundle : Bundle → Bundle → Bundle
joined_bundle l r =
    record {
      heads = map (linked r.heads (length l.segments)) l.heads;
      segments = linked_segments r.heads l.segments ++ r.segments;
      live = r.live;
    }

-- segments after more bytes: each track that goes through one of the old ones goes on by these bytes
pub record ReadsOn (at : ℕ) (bytes : List ℕ) (old new : List SegmentValue) : Type 0 where
  pub all : AreIn old → (k start : ℕ) (s : LexState) (u : List ℕ) → k < length old → at ≡ start + length u
      → follow old (Ahead k) ≡ lex s start u → follow new (Ahead k) ≡ lex s start (u ++ bytes)
  pub segments : AreIn old → AreIn new
  pub many : length old ≤ length new
  pub counted : (held : List LexState) → AllHeld held old → stored new ≤ stored old + shared_from held bytes
  pub held : (held : List LexState) → AllHeld held old → AllHeld (after held bytes) new
  pub placed : (from : ℕ) → from ≤ at → ArePlaced from at old → ArePlaced from (at + length bytes) new

-- a bundle to which a segment was added, where the track from this state begins
abbrev pub with_segment : LexState → SegmentValue → List Bool → Bundle → Bundle
with_segment s p live b = record { heads = set b.heads (ordinal s) (Ahead (length b.segments)); segments = b.segments ++ p ∷ []; live = live }

-- a bundle in which the track from this state has no segment
abbrev pub with_exit : LexState → Link → List Bool → Bundle → Bundle
with_exit s g live b = record { heads = set b.heads (ordinal s) g; segments = b.segments; live = live }

-- the states that are live, and one more
abbrev pub more_live : Option LexState → List Bool → List Bool
more_live None live = live
more_live (Some s) live = set live (ordinal s) true

-- whether a byte has no event
abbrev pub is_quiet : Step → Bool
is_quiet m = is_none m.end && is_none m.begin

-- a bundle to which the track of one byte from this state was added
abbrev pub with_byte : ℕ → ℕ → LexState → Bundle → Bundle
with_byte at byte s b =
    if is_quiet (move s byte)
    then with_exit s (link_of at ((move s byte).next)) (more_live ((move s byte).next) b.live) b
    else with_segment s (read_segment at byte (opening s)) (more_live ((move s byte).next) b.live) b

-- whether two tracks stand in different states
abbrev pub is_apart : Link → Link → Bool
is_apart (State s) (State t) = not (ordinal s == ordinal t)
is_apart (State s) (Ahead k) = false
is_apart (State s) (Fault at) = false
is_apart (Ahead k) h = false
is_apart (Fault at) h = false

-- the states in which the segments stand
pub record StandIn (live : List Bool) (ps : List SegmentValue) : Type 0 where
  pub all : length live ≡ 32
  pub stand : AllLive live ps
  pub held : (held : List LexState) → AllHeld held ps → Within live held
