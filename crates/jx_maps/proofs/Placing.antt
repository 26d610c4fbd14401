-- Marks of segments stand in rising order between two offsets.
use Rattle.std.proofs.Common.{ℕ, ◌+◌, ◌≤◌, List, [], ◌∷◌, ◌++◌, arith}
use Rattle.jx_lex.specs.declared.alphabet.mark.Mark.{Mark}
use Rattle.jx_maps.specs.declared.link.Link.{Link}
use Rattle.jx_maps.specs.Follow.{SegmentValue, linked_segments}
use Rattle.jx_maps.specs.Map.{MarksIn, ArePlaced}

pub MarksIn-wider : (a b c d : ℕ) (ms : List Mark) → c ≤ a → b ≤ d → MarksIn a b ms → MarksIn c d ms
MarksIn-wider a b c d [] low high h = tt
MarksIn-wider a b c d (m ∷ ms) low high h =
    let l = h.0 in
    let u = h.1 in
    (omega (arith, low, l), omega (arith, high, u), MarksIn-wider (m.at + 1) b (m.at + 1) d ms (omega arith) high h.2)

pub MarksIn-append : (a b c : ℕ) (ms ns : List Mark) → a ≤ b → b ≤ c → MarksIn a b ms → MarksIn b c ns → MarksIn a c (ms ++ ns)
MarksIn-append a b c [] ns low high h k = MarksIn-wider b c a c ns low (omega arith) k
MarksIn-append a b c (m ∷ ms) ns low high h k =
    let u = h.1 in
    (h.0, omega (arith, high, u), MarksIn-append (m.at + 1) b c ms ns (omega (arith, u)) high h.2 k)

pub ArePlaced-wider : (a b c d : ℕ) (ps : List SegmentValue) → c ≤ a → b ≤ d → ArePlaced a b ps → ArePlaced c d ps
ArePlaced-wider a b c d [] low high h = tt
ArePlaced-wider a b c d (p ∷ ps) low high h = (MarksIn-wider a b c d p.marks low high h.0, ArePlaced-wider a b c d ps low high h.1)

pub ArePlaced-append : (a b : ℕ) (ps qs : List SegmentValue) → ArePlaced a b ps → ArePlaced a b qs → ArePlaced a b (ps ++ qs)
ArePlaced-append a b [] qs h k = k
ArePlaced-append a b (p ∷ ps) qs h k = (h.0, ArePlaced-append a b ps qs h.1 k)

pub ArePlaced-linked : (heads : List Link) (a b : ℕ) (ps : List SegmentValue) → ArePlaced a b ps → ArePlaced a b (linked_segments heads ps)
ArePlaced-linked heads a b [] h = tt
ArePlaced-linked heads a b (p ∷ ps) h = (h.0, ArePlaced-linked heads a b ps h.1)
