-- Segments that don't lead out in a state: a join leaves them as they are.
use Rattle.std.specs.Prelude.{ℕ, zero, suc, ◌≤◌, List, [], ◌∷◌, length}
use Rattle.jx_lex.specs.declared.alphabet.state.LexState.{LexState}
use Rattle.jx_maps.specs.declared.link.Link.{Link}
use Rattle.jx_maps.specs.declared.link.Link.TheVariants.{Ahead, State, Fault}
use Rattle.jx_maps.specs.Follow.{SegmentValue, head}

abbrev pub IsClosed : Link → Type 0
IsClosed (State s) = ⊥
IsClosed (Ahead k) = Unit {0}
IsClosed (Fault at) = Unit {0}

-- the first k segments
abbrev pub ClosedTo : ℕ → List SegmentValue → Type 0
ClosedTo zero ps = Unit {0}
ClosedTo (suc k) [] = Unit {0}
ClosedTo (suc k) (p ∷ ps) = IsClosed p.next × ClosedTo k ps

pub record AreClosed (closed : ℕ) (heads : List Link) (ps : List SegmentValue) : Type 0 where
  pub within : closed ≤ length ps
  pub all : (s : LexState) → IsClosed (head heads s)
  pub segments : ClosedTo closed ps
