-- No mark is stored twice: the marks of all segments are at most the shared count.
use Rattle.std.proofs.Common.{◌≡◌, ℕ, zero, suc, ◌+◌, ◌<◌, ◌≤◌, List, [], ◌∷◌, ◌++◌, length, refl, ap, subst, ◌∙◌, arith, length-append, map, Bool, true, false, ◌&&◌, ◌||◌, ◌==◌, sum_by, cond, Option, Some, None, is_some}
use Rattle.std.proofs.lemmas.List.Sums.{get_or-le-sum_by, sum_by-le-sum_by, sum_by-cons}
use Rattle.std.proofs.lemmas.Bool.Decides.{nat_tests}
use Rattle.jx_lex.specs.declared.alphabet.state.LexState.{LexState}
use Rattle.jx_lex.specs.declared.alphabet.state.LexState.TheVariants as state
use Rattle.jx_lex.specs.declared.alphabet.mark.MarkKind.{MarkKind}
use Rattle.jx_lex.specs.Moves.{move}
use Rattle.jx_lex.specs.Lex.{with_mark}
use Rattle.jx_maps.specs.declared.link.Link.{Link}
use Rattle.jx_maps.specs.declared.link.Link.TheVariants.{Ahead, State, Fault}
use Rattle.jx_lex.specs.Ordinal.{ordinal, all_states}
use Rattle.jx_maps.specs.Follow.{SegmentValue, shifted, linked, linked_segments}
use Rattle.jx_maps.specs.Map.{Map, stored, joined_map}
use Rattle.jx_maps.specs.inside.Step.{link_of, read_from, read_segment, opening, meeting_heads, met, held_by, state_is, stands_in}
use Rattle.jx_maps.specs.Shared.{held_after, add_next, has, begins, HeldAt, AllHeld}
use Rattle.jx_lex.proofs.StateOrder.{ordinal-low, same_ordinal, state-read}
use Rattle.jx_maps.proofs.Meeting.{head-meeting}

-- ---- marks

pub stored-append : (ps qs : List SegmentValue) → stored (ps ++ qs) ≡ stored ps + stored qs
stored-append [] qs = omega arith
stored-append (p ∷ ps) qs = omega (arith, stored-append ps qs)

pub stored-linked : (heads : List Link) (ps : List SegmentValue) → stored (linked_segments heads ps) ≡ stored ps
stored-linked heads [] = refl
stored-linked heads (p ∷ ps) = ap (λ n. length p.marks + n) (stored-linked heads ps)

-- a join stores what both sides store
pub stored-joined : (l r : Map) → stored ((joined_map l r).segments) ≡ stored l.segments + stored r.segments
stored-joined l r = stored-append (linked_segments r.heads l.segments) r.segments ∙ ap (λ n. n + stored r.segments) (stored-linked r.heads l.segments)

pub stored-met : (s : LexState) (ps : List SegmentValue) → stored (met s ps) ≡ stored ps
stored-met s ps =
    let a = stored-append (linked_segments (meeting_heads s) ps) (opening s ∷ []) in
    let b = stored-linked (meeting_heads s) ps in
    omega (arith, a, b)

abbrev pub push_at : ℕ → Link → ℕ
push_at b (State s) = cond (begins b s) 1 0
push_at b (Ahead k) = 0
push_at b (Fault at) = 0

abbrev pub pushes : ℕ → List SegmentValue → ℕ
pushes b [] = 0
pushes b (p ∷ ps) = push_at b p.next + pushes b ps

pub marks-read : (at b : ℕ) (p : SegmentValue) (g : Link) → length ((read_from at b p g).marks) ≡ push_at b g + length p.marks
marks-read at b p (Ahead k) = omega arith
marks-read at b p (Fault f) = omega arith
marks-read at b p (State s) = go ((move s b).begin)
  where
    go : (m : Option MarkKind) → length (p.marks ++ with_mark m at []) ≡ cond (is_some m) 1 0 + length p.marks
    go None = let e = length-append p.marks (with_mark None at []) in omega (arith, e)
    go (Some k) = let e = length-append p.marks (with_mark (Some k) at []) in omega (arith, e)

pub stored-read : (at b : ℕ) (ps : List SegmentValue) → stored (map (read_segment at b) ps) ≡ pushes b ps + stored ps
stored-read at b [] = refl
stored-read at b (p ∷ ps) = let e = stored-read at b ps in let f = marks-read at b p p.next in omega (arith, e, f)

-- ---- each state that is held counts once

-- a sum over all states is at least its term at a state
pub term-le : (f : LexState → ℕ) (s : LexState) → f s ≤ sum_by f all_states
term-le f s =
    let e : ordinal s < length all_states = ordinal-low s in
    subst (λ (t : LexState). f t ≤ sum_by f all_states) (state-read s) (get_or-le-sum_by f all_states (ordinal s) state.Gap e)

pub sum-both : (f g : LexState → ℕ) (ss : List LexState) → sum_by (λ s. f s + g s) ss ≡ sum_by f ss + sum_by g ss
sum-both f g [] = refl
sum-both f g (s ∷ ss) =
    let e = sum-both f g ss in
    let a = sum_by-cons (λ s. f s + g s) s ss in
    let b = sum_by-cons f s ss in
    let c = sum_by-cons g s ss in
    omega (arith, e, a, b, c)

abbrev pub spread : ℕ → List SegmentValue → LexState → ℕ
spread b ps s = cond (begins b s) (held_by s ps) 0

abbrev at_state : ℕ → Link → LexState → ℕ
at_state b g s = cond (begins b s) (cond (state_is s g) 1 0) 0

pub held_by-cons : (s : LexState) (p : SegmentValue) (ps : List SegmentValue) → held_by s (p ∷ ps) ≡ cond (state_is s p.next) 1 0 + held_by s ps
held_by-cons s p ps = sum_by-cons (λ x. cond (stands_in s x) 1 0) p ps

spread-cons : (b : ℕ) (p : SegmentValue) (ps : List SegmentValue) (s : LexState) → at_state b p.next s + spread b ps s ≤ spread b (p ∷ ps) s
spread-cons b p ps s = rw (held_by-cons s p ps) (go (begins b s))
  where
    go : (t : Bool) → cond t (cond (state_is s p.next) 1 0) 0 + cond t (held_by s ps) 0 ≤ cond t (cond (state_is s p.next) 1 0 + held_by s ps) 0
    go true = omega arith
    go false = omega arith

pub is_itself : (n : ℕ) → (n == n) ≡ true
is_itself n = grind arith

pub push-le : (b : ℕ) (g : Link) → push_at b g ≤ sum_by (at_state b g) all_states
push-le b (Ahead k) = omega arith
push-le b (Fault at) = omega arith
push-le b (State s) =
    let e : at_state b (State s) s ≡ cond (begins b s) 1 0 = ap (λ t. cond (begins b s) (cond t 1 0) 0) (is_itself (ordinal s)) in
    subst (λ n. n ≤ sum_by (at_state b (State s)) all_states) e (term-le (at_state b (State s)) s)

pub pushes-spread : (b : ℕ) (ps : List SegmentValue) → pushes b ps ≤ sum_by (spread b ps) all_states
pushes-spread b [] = omega arith
pushes-spread b (p ∷ ps) =
    let a = push-le b p.next in
    let c = pushes-spread b ps in
    let d = sum-both (at_state b p.next) (spread b ps) all_states in
    let e = sum_by-le-sum_by (λ s. at_state b p.next s + spread b ps s) (spread b (p ∷ ps)) all_states (spread-cons b p ps) in
    total (push_at b p.next) (pushes b ps) (sum_by (at_state b p.next) all_states) (sum_by (spread b ps) all_states) _ _ a c d e
  where
    total : (x y u v w z : ℕ) → x ≤ u → y ≤ v → w ≡ u + v → w ≤ z → x + y ≤ z
    total x y u v w z a c d e = omega arith

-- what some segment stands in is held
pub held_by-has : (held : List LexState) (ps : List SegmentValue) (s : LexState) → AllHeld held ps → 1 ≤ held_by s ps → has s held ≡ true
held_by-has held [] s h low = absurd (omega (arith, low))
held_by-has held (p ∷ ps) s h low = go p.next h.0 (rw (held_by-cons s p ps) at low) (λ l. held_by-has held ps s h.1 l)
  where
    go : (g : Link) → HeldAt held g → 1 ≤ cond (state_is s g) 1 0 + held_by s ps → (1 ≤ held_by s ps → has s held ≡ true) → has s held ≡ true
    go (Ahead k) a l more = more (omega (arith, l))
    go (Fault at) a l more = more (omega (arith, l))
    go (State t) a l more = pick (ordinal t == ordinal s) refl l
      where
        pick : (b : Bool) → (ordinal t == ordinal s) ≡ b → 1 ≤ cond b 1 0 + held_by s ps → has s held ≡ true
        pick true e l = subst (λ u. has u held ≡ true) (same_ordinal t s (grind (arith, nat_tests, e))) a
        pick false e l = more (omega (arith, l))

or_true : (b : Bool) → (b || true) ≡ true
or_true true = refl
or_true false = refl

has-head : (s : LexState) (ss : List LexState) → has s (s ∷ ss) ≡ true
has-head s ss = ap (λ b. b || has s ss) (is_itself (ordinal s))

has-more : (s x : LexState) (ss : List LexState) → has s ss ≡ true → has s (x ∷ ss) ≡ true
has-more s x ss h = ap (λ b. (ordinal x == ordinal s) || b) h ∙ or_true (ordinal x == ordinal s)

pub has-after : (b : ℕ) (t n : LexState) (held : List LexState) → has t held ≡ true → (move t b).next ≡ Some n → has n (held_after b held) ≡ true
has-after b t n [] h e = absurd cc
has-after b t n (x ∷ xs) h e = pick (ordinal x == ordinal t) refl h (λ l. has-after b t n xs l e)
  where
    added : (m : Option LexState) → has n (held_after b xs) ≡ true → has n (add_next m (held_after b xs)) ≡ true
    added None l = l
    added (Some y) l = has-more n y (held_after b xs) l

    pick : (c : Bool) → (ordinal x == ordinal t) ≡ c → (c || has t xs) ≡ true → (has t xs ≡ true → has n (held_after b xs) ≡ true) → has n (add_next ((move x b).next) (held_after b xs)) ≡ true
    pick true i l more =
        let q : (move x b).next ≡ Some n = ap (λ s. (move s b).next) (same_ordinal x t (grind (arith, nat_tests, i))) ∙ e in
        ap (λ m. has n (add_next m (held_after b xs))) q ∙ has-head n (held_after b xs)
    pick false i l more = added ((move x b).next) (more l)

pub AllHeld-read : (at b : ℕ) (held : List LexState) (ps : List SegmentValue) → AllHeld held ps → AllHeld (held_after b held) (map (read_segment at b) ps)
AllHeld-read at b held [] h = tt
AllHeld-read at b held (p ∷ ps) h = (go p.next refl h.0, AllHeld-read at b held ps h.1)
  where
    go : (g : Link) → p.next ≡ g → HeldAt held g → HeldAt (held_after b held) ((read_from at b p g).next)
    go (Ahead k) e a = rw e tt
    go (Fault f) e a = rw e tt
    go (State t) e a = next ((move t b).next) refl
      where
        next : (m : Option LexState) → (move t b).next ≡ m → HeldAt (held_after b held) (link_of at m)
        next None q = tt
        next (Some n) q = has-after b t n held a q

pub AllHeld-append : (held : List LexState) (ps qs : List SegmentValue) → AllHeld held ps → AllHeld held qs → AllHeld held (ps ++ qs)
AllHeld-append held [] qs h k = k
AllHeld-append held (p ∷ ps) qs h k = (h.0, AllHeld-append held ps qs h.1 k)

pub AllHeld-linked : (held : List LexState) (s : LexState) (ps : List SegmentValue) → AllHeld held ps → AllHeld held (linked_segments (meeting_heads s) ps)
AllHeld-linked held s [] h = tt
AllHeld-linked held s (p ∷ ps) h = (go p.next h.0, AllHeld-linked held s ps h.1)
  where
    go : (g : Link) → HeldAt held g → HeldAt held (linked (meeting_heads s) (length ps) g)
    go (Ahead k) a = tt
    go (Fault f) a = tt
    go (State t) a = head-meeting (λ g. HeldAt held (shifted (length ps) g)) s t (λ e. tt) (λ e. a)

pub has-all : (s : LexState) → has s all_states ≡ true
has-all state.Gap = refl
has-all state.Str = refl
has-all state.Esc = refl
has-all state.Hex4 = refl
has-all state.Hex3 = refl
has-all state.Hex2 = refl
has-all state.Hex1 = refl
has-all state.Tail1 = refl
has-all state.Tail2 = refl
has-all state.Tail3 = refl
has-all state.AfterE0 = refl
has-all state.AfterEd = refl
has-all state.AfterF0 = refl
has-all state.AfterF4 = refl
has-all state.Minus = refl
has-all state.Zero = refl
has-all state.Int = refl
has-all state.Dot = refl
has-all state.Frac = refl
has-all state.E = refl
has-all state.ESign = refl
has-all state.Exp = refl
has-all state.T = refl
has-all state.Tr = refl
has-all state.Tru = refl
has-all state.F = refl
has-all state.Fa = refl
has-all state.Fal = refl
has-all state.Fals = refl
has-all state.N = refl
has-all state.Nu = refl
has-all state.Nul = refl

pub spread-le : (b : ℕ) (held : List LexState) (ps : List SegmentValue) → AllHeld held ps → ((s : LexState) → held_by s ps ≤ 1)
    → (s : LexState) → spread b ps s ≤ cond (has s held && begins b s) 1 0
spread-le b held ps h one s = go (begins b s) (has s held) refl
  where
    go : (t c : Bool) → has s held ≡ c → cond t (held_by s ps) 0 ≤ cond (c && t) 1 0
    go false c e = omega arith
    go true true e = one s
    go true false e = none (held_by s ps) refl
      where
        none : (n : ℕ) → held_by s ps ≡ n → held_by s ps ≤ 0
        none zero q = omega arith
        none (suc n) q = let t : has s held ≡ true = held_by-has held ps s h (omega arith) in absurd cc
