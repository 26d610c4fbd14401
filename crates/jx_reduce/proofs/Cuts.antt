-- Lists of marks whose offsets rise, cut in two.
use Rattle.std.proofs.Common.{ℕ, zero, suc, ◌+◌, ◌<◌, ◌≤◌, List, [], ◌∷◌, ◌++◌, take, drop, arith}
use Rattle.jx_reduce.specs.Offsets.{EachIn, RisingFrom}
use Rattle.jx_reduce.specs.Reductions.{Forms, IsBefore, SpansIn}
use Rattle.jx_reduce.specs.inside.Structures.{end_of}
use Rattle.jx_reduce.proofs.Spans.{before_of_spans}
use Rattle.jx_lex.specs.declared.alphabet.mark.Mark.{Mark}

pub RisingFrom-less : (b c : ℕ) (ms : List Mark) → c ≤ b → RisingFrom b ms → RisingFrom c ms
RisingFrom-less b c [] h r = tt
RisingFrom-less b c (m ∷ ms) h r = (omega (arith, h, r.0), r.1)

pub RisingFrom-take : (n b : ℕ) (ms : List Mark) → RisingFrom b ms → RisingFrom b (take n ms)
RisingFrom-take zero b ms r = tt
RisingFrom-take (suc n) b [] r = tt
RisingFrom-take (suc n) b (m ∷ ms) r = (r.0, RisingFrom-take n (m.at + 1) ms r.1)

pub RisingFrom-drop : (n b : ℕ) (ms : List Mark) → RisingFrom b ms → RisingFrom b (drop n ms)
RisingFrom-drop zero b ms r = r
RisingFrom-drop (suc n) b [] r = tt
RisingFrom-drop (suc n) b (m ∷ ms) r = RisingFrom-drop n b ms (RisingFrom-less (m.at + 1) b ms (omega (arith, r.0)) r.1)

pub rising-split : (b : ℕ) (xs ys : List Mark) → RisingFrom b (xs ++ ys) → RisingFrom b xs × RisingFrom (end_of b xs) ys
rising-split b [] ys h = (tt, h)
rising-split b (x ∷ xs) ys h = let r = rising-split (x.at + 1) xs ys h.1 in ((h.0, r.0), r.1)

-- one more mark behind all of them
pub RisingFrom-push : (b c : ℕ) (ms : List Mark) (m : Mark) → b ≤ m.at → RisingFrom b ms → EachIn (λ n. (c ≤ n.at) × (n.at < m.at)) ms → RisingFrom b (ms ++ m ∷ [])
RisingFrom-push b c [] m h r e = (h, tt)
RisingFrom-push b c (n ∷ ms) m h r e = (r.0, RisingFrom-push (n.at + 1) c ms m (omega (arith, e.0.1)) r.1 e.1)

pub below-push : (c d : ℕ) (ms : List Mark) (m : Mark) → c ≤ m.at → m.at < d → EachIn (λ n. (c ≤ n.at) × (n.at < m.at)) ms → EachIn (λ n. (c ≤ n.at) × (n.at < d)) (ms ++ m ∷ [])
below-push c d [] m g h e = ((g, h), tt)
below-push c d (n ∷ ms) m g h e = ((e.0.0, omega (arith, h, e.0.1)), below-push c d ms m g h e.1)

-- an offset between the left and the right
pub record Between (b n : ℕ) (ms : List Mark) : Type 0 where
  pub at : ℕ
  pub low : b ≤ at
  pub below : EachIn (λ m. (b ≤ m.at) × (m.at < at)) (take n ms)
  pub above : RisingFrom at (drop n ms)

each_lower : (b c d : ℕ) (ms : List Mark) → b ≤ c → EachIn (λ m. (c ≤ m.at) × (m.at < d)) ms → EachIn (λ m. (b ≤ m.at) × (m.at < d)) ms
each_lower b c d [] h e = tt
each_lower b c d (m ∷ ms) h e = ((omega (arith, h, e.0.0), e.0.1), each_lower b c d ms h e.1)

pub between : (b n : ℕ) (ms : List Mark) → RisingFrom b ms → Between b n ms
between b zero ms r = record { at = b; low = omega arith; below = tt; above = r }
between b (suc n) [] r = record { at = b; low = omega arith; below = tt; above = tt }
between b (suc n) (m ∷ ms) r =
    let rest : Between (m.at + 1) n ms = between (m.at + 1) n ms r.1 in
    record {
      at = rest.at;
      low = omega (arith, r.0, rest.low);
      below = ((r.0, omega (arith, rest.low)), each_lower b (m.at + 1) rest.at (take n ms) (omega (arith, r.0)) rest.below);
      above = rest.above;
    }

-- an offset that none reaches
pub record Under (b : ℕ) (ms : List Mark) : Type 0 where
  pub at : ℕ
  pub low : b ≤ at
  pub below : EachIn (λ m. (b ≤ m.at) × (m.at < at)) ms

pub under : (b : ℕ) (ms : List Mark) → RisingFrom b ms → Under b ms
under b [] r = record { at = b; low = omega arith; below = tt }
under b (m ∷ ms) r =
    let rest : Under (m.at + 1) ms = under (m.at + 1) ms r.1 in
    record {
      at = rest.at;
      low = omega (arith, r.0, rest.low);
      below = ((r.0, omega (arith, rest.low)), each_lower b (m.at + 1) rest.at ms (omega (arith, r.0)) rest.below);
    }

-- the structures of the left and the right may be joined
pub before_of_parts : (n : ℕ) (ms : List Mark) (l r : Forms) → RisingFrom 0 ms
    → ((low high : ℕ) → EachIn (λ m. (low ≤ m.at) × (m.at < high)) (take n ms) → SpansIn low high l)
    → ((low high : ℕ) → EachIn (λ m. (low ≤ m.at) × (m.at < high)) (drop n ms) → SpansIn low high r)
    → IsBefore l r
before_of_parts n ms l r rising left right =
    let mid : Between 0 n ms = between 0 n ms rising in
    let end : Under mid.at (drop n ms) = under mid.at (drop n ms) mid.above in
    before_of_spans 0 mid.at end.at l r (left 0 mid.at mid.below) (right mid.at end.at end.below)
