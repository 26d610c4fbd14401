-- A view of a track as contracts see it.
use Rattle.std.specs.Prelude.{ℕ, zero, suc, List, [], ◌∷◌, get_or}
use Rattle.jx_lex.specs.Lex as lex
use Rattle.jx_lex.specs.declared.alphabet.mark.Mark.{Mark}
use Rattle.jx_maps.specs.declared.link.Link.{Link}
use Rattle.jx_maps.specs.declared.link.Link.TheVariants as link
use Rattle.jx_maps.specs.Follow.{SegmentValue, follow}

-- the segments of a map, and where in them the track begins
pub record View : Type 0 where
  pub segments : List SegmentValue
  pub first : Link

abbrev pub view_track : View → lex.Track
view_track v = follow v.segments v.first

-- the numbers of the segments that a track goes through, where the first of these segments has the number n
unfoldable pub path_from : ℕ → List SegmentValue → Link → List ℕ
path_from n ps (link.State s) = []
path_from n ps (link.Fault at) = []
path_from n [] (link.Ahead k) = []
path_from n (p ∷ ps) (link.Ahead zero) = n ∷ path_from (suc n) ps p.next
path_from n (p ∷ ps) (link.Ahead (suc k)) = path_from (suc n) ps (link.Ahead k)

abbrev pub view_path : View → List ℕ
view_path v = path_from 0 v.segments v.first

-- the token starts of the segment of this number
abbrev pub marks_at : List SegmentValue → ℕ → List Mark
marks_at ps n = (get_or ps n (record { marks = []; ends = []; next = link.Fault 0 })).marks

-- the ends of the segment of this number
abbrev pub ends_at : List SegmentValue → ℕ → List ℕ
ends_at ps n = (get_or ps n (record { marks = []; ends = []; next = link.Fault 0 })).ends
