-- Segments, each followed by another further on or by an exit, and the track that they give.
use Rattle.std.specs.Prelude.{ℕ, zero, suc, ◌+◌, ◌<◌, List, [], ◌∷◌, ◌++◌, length, get_or}
use Rattle.jx_lex.specs.declared.alphabet.state.LexState.{LexState}
use Rattle.jx_lex.specs.declared.alphabet.mark.Mark.{Mark}
use Rattle.jx_lex.specs.Lex.{Track, LexExit, state, fault}
use Rattle.jx_maps.specs.declared.link.Link.{Link}
use Rattle.jx_maps.specs.declared.link.Link.TheVariants.{Ahead, State, Fault}
use Rattle.jx_lex.specs.Ordinal.{ordinal}

-- a segment as contracts see it
pub record SegmentValue : Type 0 where
  pub marks : List Mark
  pub ends : List ℕ
  pub next : Link

abbrev pub done : LexExit → Track
done e = record { marks = []; ends = []; exit = e }

abbrev pub behind : SegmentValue → Track → Track
behind p t = record { marks = p.marks ++ t.marks; ends = p.ends ++ t.ends; exit = t.exit }

-- the track from here on: Ahead k is the segment after the next k ones
unfoldable pub follow : List SegmentValue → Link → Track
follow ps (State s) = done (state s)
follow ps (Fault at) = done (fault at)
follow [] (Ahead k) = done (fault 0)
follow (p ∷ ps) (Ahead zero) = behind p (follow ps p.next)
follow (p ∷ ps) (Ahead (suc k)) = follow ps (Ahead k)

-- leads to one of the next n segments, or out
abbrev pub IsIn : ℕ → Link → Type 0
IsIn n (Ahead k) = k < n
IsIn n (State s) = Unit {0}
IsIn n (Fault at) = Unit {0}

abbrev pub AreIn : List SegmentValue → Type 0
AreIn [] = Unit {0}
AreIn (p ∷ ps) = IsIn (length ps) p.next × AreIn ps

-- past n more segments
abbrev pub shifted : ℕ → Link → Link
shifted n (Ahead k) = Ahead (n + k)
shifted n (State s) = State s
shifted n (Fault at) = Fault at

abbrev pub head : List Link → LexState → Link
head heads s = get_or heads (ordinal s) (Fault 0)

-- an exit in a state becomes the right map's head for that state, n segments further on
abbrev pub linked : List Link → ℕ → Link → Link
linked heads n (Ahead k) = Ahead k
linked heads n (State s) = shifted n (head heads s)
linked heads n (Fault at) = Fault at

abbrev pub linked_segments : List Link → List SegmentValue → List SegmentValue
linked_segments heads [] = []
linked_segments heads (p ∷ ps) = record p { next = linked heads (length ps) p.next } ∷ linked_segments heads ps
