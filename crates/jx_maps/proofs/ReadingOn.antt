-- Segments read on: each track that goes through them goes on by the same bytes.
use Rattle.std.proofs.Common.{◌≡◌, not, is_some, nat_lt, get_or, ◌⊎◌, inl, inr, ℕ, suc, ◌+◌, ◌<◌, ◌≤◌, List, [], ◌∷◌, ◌++◌, length, refl, ap, sym, subst, ◌∙◌, arith, append-nil, append_assoc, length-append, map, Bool, true, false, cond, ◌==◌, sum_by, Option, Some, None}
use Rattle.std.proofs.lemmas.List.{length-map}
use Rattle.std.proofs.lemmas.List.Sums.{sum_by-le-sum_by}
use Rattle.std.proofs.lemmas.Bool.Decides.{nat_tests}
use Rattle.std.specs.Prelude.{slice_range}
use Rattle.jx_lex.specs.declared.alphabet.state.LexState.{LexState}
use Rattle.jx_lex.specs.declared.alphabet.mark.Mark.{Mark}
use Rattle.jx_lex.specs.declared.alphabet.mark.MarkKind.{MarkKind}
use Rattle.jx_maps.specs.declared.link.Link.{Link}
use Rattle.jx_maps.specs.declared.link.Link.TheVariants.{Ahead, State, Fault}
use Rattle.jx_lex.specs.Moves.{move}
use Rattle.jx_lex.specs.Lex.{Track, LexExit, lex, with_mark}
use Rattle.jx_lex.specs.Ordinal.{ordinal, all_states}
use Rattle.jx_maps.specs.Follow.{SegmentValue, follow, IsIn, head, shifted, linked, linked_segments}
use Rattle.jx_maps.specs.inside.Closed.{IsClosed, AreClosed}
use Rattle.jx_maps.specs.inside.Step.{read_segment, read_from, opening, state_is, held_by, met, meeting_heads}
use Rattle.jx_maps.specs.inside.Passing.{KeptBy, AllKept, read_bytes}
use Rattle.jx_maps.specs.Map.{MarksIn, ArePlaced}
use Rattle.jx_maps.specs.Shared.{has, beginning, shared_from, after, HeldAt, AllHeld}
use Rattle.jx_maps.specs.inside.Bundle.{Bundle, LiveAt, AllLive, Within, IsBundleOf, Stands, ReadsOn, is_apart, joined_bundle}
use Rattle.jx_lex.specs.TwoPieces.{joined}
use Rattle.jx_lex.proofs.LexJoin.{lex-append}
use Rattle.jx_lex.proofs.OneByte.{one}
use Rattle.jx_lex.proofs.StateOrder.{same_ordinal}
use Rattle.jx_maps.proofs.Joined.{length-linked, AreIn-linked}
use Rattle.jx_maps.proofs.Meeting.{follow-met, head-meeting, IsIn-meeting}
use Rattle.jx_maps.proofs.Reading.{follow-read, AreIn-read}
use Rattle.jx_maps.proofs.Passing.{keep-segment, pass-over, kept-leads}
use Rattle.jx_lex.proofs.Slices.{slice-none, slice-length, slice-split, slice-more}
use Rattle.jx_maps.proofs.Bundles.{shared-join, after-join, Reads-joined}
use Rattle.jx_maps.proofs.Building.{AreClosed-bundle}
use Rattle.jx_maps.proofs.Counting.{is_itself, pushes, push_at, stored-read, stored-met, pushes-spread, spread, spread-le, held_by-cons, AllHeld-read, AllHeld-append, AllHeld-linked}
use Rattle.jx_maps.proofs.Placing.{MarksIn-wider, MarksIn-append, ArePlaced-wider, ArePlaced-append, ArePlaced-linked}

-- ---- no byte, and bytes behind one another

pub reads-none : (at : ℕ) (ps : List SegmentValue) → ReadsOn at [] ps ps
unfolding shared_from
reads-none at ps =
    record {
      all = λ w k start s u low here e. e ∙ ap (lex s start) (sym (append-nil u));
      segments = λ w. w;
      many = omega arith;
      counted = λ held h. omega arith;
      held = λ held h. h;
      placed = λ from le h. ArePlaced-wider from at from (at + 0) ps (omega arith) (omega arith) h;
    }

pub reads-then : (at : ℕ) (u w : List ℕ) (ps qs rs : List SegmentValue) → ReadsOn at u ps qs → ReadsOn (at + length u) w qs rs → ReadsOn at (u ++ w) ps rs
reads-then at u w ps qs rs f g =
    record {
      all = λ v k start s x low here e.
          let l = length-append x u in
          let m = f.many in
          g.all (f.segments v) k start s (x ++ u) (omega (arith, low, m)) (omega (arith, l, here)) (f.all v k start s x low here e)
          ∙ ap (lex s start) (append_assoc x u w);
      segments = λ v. g.segments (f.segments v);
      many = let a = f.many in let b = g.many in omega (arith, a, b);
      counted = λ held h.
          let a = f.counted held h in
          let b = g.counted (after held u) (f.held held h) in
          let c = shared-join held u w in
          omega (arith, a, b, c);
      held = λ held h. subst (λ hs. AllHeld hs rs) (sym (after-join held u w)) (g.held (after held u) (f.held held h));
      placed = λ from le h.
          let l = length-append u w in
          ArePlaced-wider from (at + length u + length w) from (at + length (u ++ w)) rs (omega arith) (omega (arith, l)) (g.placed from (omega (arith, le)) (f.placed from le h));
    }

-- ---- one byte for all of them

MarksIn-mark : (from at : ℕ) (m : Option MarkKind) (ms : List Mark) → from ≤ at → MarksIn from at ms → MarksIn from (at + 1) (ms ++ with_mark m at [])
MarksIn-mark from at None ms le h = MarksIn-append from at (at + 1) ms [] le (omega arith) h tt
MarksIn-mark from at (Some k) ms le h = MarksIn-append from at (at + 1) ms _ le (omega arith) h (omega arith, omega arith, tt)

ArePlaced-read : (from at b : ℕ) (ps : List SegmentValue) → from ≤ at → ArePlaced from at ps → ArePlaced from (at + 1) (map (read_segment at b) ps)
ArePlaced-read from at b [] le h = tt
ArePlaced-read from at b (p ∷ ps) le h = (go p.next, ArePlaced-read from at b ps le h.1)
  where
    go : (g : Link) → MarksIn from (at + 1) ((read_from at b p g).marks)
    go (Ahead k) = MarksIn-wider from at from (at + 1) p.marks (omega arith) (omega arith) h.0
    go (Fault f) = MarksIn-wider from at from (at + 1) p.marks (omega arith) (omega arith) h.0
    go (State s) = MarksIn-mark from at ((move s b).begin) p.marks le h.0

-- where no more marks begin than different states begin one
pub reads-byte : (at b : ℕ) (ps : List SegmentValue) → ((held : List LexState) → AllHeld held ps → pushes b ps ≤ beginning b held)
    → ReadsOn at (b ∷ []) ps (map (read_segment at b) ps)
unfolding shared_from
reads-byte at b ps few =
    record {
      all = λ w k start s u low here e.
          follow-read at b ps k low w
          ∙ ap (λ t. joined t (one at b)) e
          ∙ ap (λ n. joined (lex s start u) (one n b)) here
          ∙ sym (lex-append u (b ∷ []) s start);
      segments = AreIn-read at b ps;
      many = rw (length-map ps (read_segment at b)) (let z : length ps ≤ length ps = omega arith in z);
      counted = λ held h. let a = stored-read at b ps in let c = few held h in omega (arith, a, c);
      held = λ held h. AllHeld-read at b held ps h;
      placed = λ from le h. ArePlaced-read from at b ps le h;
    }

-- no two stand in one state
pub few-single : (b : ℕ) (ps : List SegmentValue) → ((s : LexState) → held_by s ps ≤ 1) → (held : List LexState) → AllHeld held ps → pushes b ps ≤ beginning b held
few-single b ps single held h =
    let a = pushes-spread b ps in
    let c : sum_by (spread b ps) all_states ≤ beginning b held = sum_by-le-sum_by (spread b ps) _ all_states (spread-le b held ps h single) in
    omega (arith, a, c)

single-one : (p : SegmentValue) (s : LexState) → held_by s (p ∷ []) ≤ 1
single-one p s = rw (held_by-cons s p []) (go (state_is s p.next))
  where
    go : (c : Bool) → cond c 1 0 + 0 ≤ 1
    go true = omega arith
    go false = omega arith

apart-single : (p q : SegmentValue) → is_apart p.next q.next ≡ true → (s : LexState) → held_by s (p ∷ q ∷ []) ≤ 1
apart-single p q a s =
    let x = held_by-cons s p (q ∷ []) in
    let y = held_by-cons s q [] in
    let z = go p.next q.next a in
    omega (arith, x, y, z)
  where
    go : (g h : Link) → is_apart g h ≡ true → cond (state_is s g) 1 0 + cond (state_is s h) 1 0 ≤ 1
    go (State t) (State u) e = pick (ordinal t == ordinal s) (ordinal u == ordinal s) refl refl
      where
        pick : (c d : Bool) → (ordinal t == ordinal s) ≡ c → (ordinal u == ordinal s) ≡ d → cond c 1 0 + cond d 1 0 ≤ 1
        pick true true f g =
            let m : ordinal t ≡ ordinal s = grind (arith, f) in
            let n : ordinal u ≡ ordinal s = grind (arith, g) in
            let o : (ordinal t == ordinal u) ≡ true = grind (arith, m, n) in
            absurd (same_apart (ordinal t == ordinal u) o e)
          where
            same_apart : (c : Bool) → c ≡ true → not c ≡ true → ⊥
            same_apart true h k = absurd cc
            same_apart false h k = absurd cc
        pick true false f g = omega arith
        pick false true f g = omega arith
        pick false false f g = omega arith
    go (State t) (Ahead k) e = absurd cc
    go (State t) (Fault f) e = absurd cc
    go (Ahead k) h e = absurd cc
    go (Fault f) h e = absurd cc

-- two that stand in different states
pub reads-apart : (at b : ℕ) (p q : SegmentValue) → is_apart p.next q.next ≡ true → ReadsOn at (b ∷ []) (p ∷ q ∷ []) (read_segment at b p ∷ read_segment at b q ∷ [])
reads-apart at b p q a = reads-byte at b (p ∷ q ∷ []) (few-single b (p ∷ q ∷ []) (apart-single p q a))

-- ---- bytes that change only one of them

kept-rest : (b : ℕ) (w : List ℕ) (g : Link) → KeptBy g (b ∷ w) → KeptBy g w
kept-rest b w (State s) h = h.1
kept-rest b w (Ahead k) h = tt
kept-rest b w (Fault at) h = tt

still-rest : (b : ℕ) (w : List ℕ) (ps : List SegmentValue) → AllKept (b ∷ w) ps → AllKept w ps
still-rest b w [] h = tt
still-rest b w (p ∷ ps) h = (kept-rest b w p.next h.0, still-rest b w ps h.1)

kept-segment : (at b : ℕ) (w : List ℕ) (p : SegmentValue) (g : Link) → p.next ≡ g → KeptBy g (b ∷ w) → read_segment at b p ≡ p
kept-segment at b w p (State s) e h = keep-segment at b s p e h.0
kept-segment at b w p (Ahead k) e h = ap (read_from at b p) e
kept-segment at b w p (Fault f) e h = ap (read_from at b p) e

still-map : (at b : ℕ) (w : List ℕ) (ps : List SegmentValue) → AllKept (b ∷ w) ps → map (read_segment at b) ps ≡ ps
still-map at b w [] h = refl
still-map at b w (p ∷ ps) h =
    ap (λ (q : SegmentValue). q ∷ map (read_segment at b) ps) (kept-segment at b w p p.next refl h.0)
    ∙ ap (λ (qs : List SegmentValue). p ∷ qs) (still-map at b w ps h.1)

kept-push : (b : ℕ) (w : List ℕ) (g : Link) → KeptBy g (b ∷ w) → push_at b g ≡ 0
kept-push b w (State s) h = ap (λ m. cond (is_some m.begin) 1 0) h.0
kept-push b w (Ahead k) h = refl
kept-push b w (Fault at) h = refl

still-pushes : (b : ℕ) (w : List ℕ) (ps : List SegmentValue) → AllKept (b ∷ w) ps → pushes b ps ≡ 0
still-pushes b w [] h = refl
still-pushes b w (p ∷ ps) h = let a = kept-push b w p.next h.0 in let c = still-pushes b w ps h.1 in omega (arith, a, c)

pushes-append : (b : ℕ) (ps qs : List SegmentValue) → pushes b (ps ++ qs) ≡ pushes b ps + pushes b qs
pushes-append b [] qs = omega arith
pushes-append b (p ∷ ps) qs = let e = pushes-append b ps qs in omega (arith, e)

AllHeld-middle : (held : List LexState) (xs ys : List SegmentValue) (p : SegmentValue) → AllHeld held (xs ++ p ∷ ys) → HeldAt held p.next
AllHeld-middle held [] ys p h = h.0
AllHeld-middle held (x ∷ xs) ys p h = AllHeld-middle held xs ys p h.1

map-segments : (f : SegmentValue → SegmentValue) (xs ys : List SegmentValue) → map f (xs ++ ys) ≡ map f xs ++ map f ys
map-segments f [] ys = refl
map-segments f (x ∷ xs) ys = ap (λ (zs : List SegmentValue). f x ∷ zs) (map-segments f xs ys)

byte-middle : (at b : ℕ) (w : List ℕ) (xs ys : List SegmentValue) (p : SegmentValue) → AllKept (b ∷ w) xs → AllKept (b ∷ w) ys
    → ReadsOn at (b ∷ []) (xs ++ p ∷ ys) (xs ++ read_segment at b p ∷ ys)
byte-middle at b w xs ys p hx hy =
    subst (ReadsOn at (b ∷ []) (xs ++ p ∷ ys)) same (reads-byte at b (xs ++ p ∷ ys) few)
  where
    same : map (read_segment at b) (xs ++ p ∷ ys) ≡ xs ++ read_segment at b p ∷ ys
    same =
        map-segments (read_segment at b) xs (p ∷ ys)
        ∙ ap (λ (zs : List SegmentValue). zs ++ read_segment at b p ∷ map (read_segment at b) ys) (still-map at b w xs hx)
        ∙ ap (λ (zs : List SegmentValue). xs ++ read_segment at b p ∷ zs) (still-map at b w ys hy)

    few : (held : List LexState) → AllHeld held (xs ++ p ∷ ys) → pushes b (xs ++ p ∷ ys) ≤ beginning b held
    few held h =
        let a = pushes-append b xs (p ∷ ys) in
        let c = still-pushes b w xs hx in
        let d = still-pushes b w ys hy in
        let e : pushes b (p ∷ []) ≤ beginning b held = few-single b (p ∷ []) (single-one p) held (AllHeld-middle held xs ys p h, tt) in
        omega (arith, a, c, d, e)

-- a stretch that changes only the one in the middle
pub reads-middle : (at : ℕ) (w : List ℕ) (xs ys : List SegmentValue) (p : SegmentValue) → AllKept w xs → AllKept w ys
    → ReadsOn at w (xs ++ p ∷ ys) (xs ++ read_bytes at w p ∷ ys)
reads-middle at [] xs ys p hx hy = reads-none at (xs ++ p ∷ ys)
reads-middle at (b ∷ w) xs ys p hx hy =
    let n : suc at ≡ at + 1 = omega arith in
    reads-then at (b ∷ []) w (xs ++ p ∷ ys) (xs ++ read_segment at b p ∷ ys) (xs ++ read_bytes (suc at) w (read_segment at b p) ∷ ys)
    (byte-middle at b w xs ys p hx hy)
    (subst (λ i. ReadsOn i w (xs ++ read_segment at b p ∷ ys) (xs ++ read_bytes (suc at) w (read_segment at b p) ∷ ys)) n
    (reads-middle (suc at) w xs ys (read_segment at b p) (still-rest b w xs hx) (still-rest b w ys hy)))

-- what a stretch does not change it may be passed over for
pub kept-bytes : (at : ℕ) (w : List ℕ) (p : SegmentValue) → KeptBy p.next w → read_bytes at w p ≡ p
kept-bytes at w p h = ap (λ v. read_bytes at v p) (sym (append-nil w)) ∙ pass-over at w [] p p.next refl (kept-leads p.next w h)

-- one of two, the other of which the stretch does not change; then both may be said to read it
pub reads-first : (at : ℕ) (w : List ℕ) (p q : SegmentValue) → KeptBy q.next w → ReadsOn at w (p ∷ q ∷ []) (read_bytes at w p ∷ q ∷ [])
reads-first at w p q h = reads-middle at w [] (q ∷ []) p tt (h, tt)

pub reads-second : (at : ℕ) (w : List ℕ) (p q : SegmentValue) → KeptBy p.next w → ReadsOn at w (p ∷ q ∷ []) (p ∷ read_bytes at w q ∷ [])
reads-second at w p q h = reads-middle at w (p ∷ []) [] q (h, tt) tt

pub reads-one : (at : ℕ) (w : List ℕ) (p : SegmentValue) → ReadsOn at w (p ∷ []) (read_bytes at w p ∷ [])
reads-one at w p = reads-middle at w [] [] p tt tt

pub reads-two : (at : ℕ) (w : List ℕ) (p q : SegmentValue) → KeptBy p.next w ⊎ KeptBy q.next w
    → ReadsOn at w (p ∷ q ∷ []) (read_bytes at w p ∷ read_bytes at w q ∷ [])
reads-two at w p q (inl h) = subst (λ x. ReadsOn at w (p ∷ q ∷ []) (x ∷ read_bytes at w q ∷ [])) (sym (kept-bytes at w p h)) (reads-second at w p q h)
reads-two at w p q (inr h) = subst (λ x. ReadsOn at w (p ∷ q ∷ []) (read_bytes at w p ∷ x ∷ [])) (sym (kept-bytes at w q h)) (reads-first at w p q h)

-- two that don't stand apart, and not in one state: one leads out
pub kept-one : (w : List ℕ) (g h : Link) → is_apart g h ≡ false → ((s : LexState) → g ≡ State s → h ≡ State s → ⊥) → KeptBy g w ⊎ KeptBy h w
kept-one w (Ahead k) h a d = inl tt
kept-one w (Fault at) h a d = inl tt
kept-one w (State s) (Ahead k) a d = inr tt
kept-one w (State s) (Fault at) a d = inr tt
kept-one w (State s) (State t) a d = absurd (d t (ap State (same_ordinal s t (same (ordinal s == ordinal t) refl a))) refl)
  where
    same : (c : Bool) → (ordinal s == ordinal t) ≡ c → not c ≡ false → ordinal s ≡ ordinal t
    same true e f = grind (arith, e)
    same false e f = absurd cc

-- ---- two that meet

AllHeld-met : (held : List LexState) (s : LexState) (ps : List SegmentValue) → has s held ≡ true → AllHeld held ps → AllHeld held (met s ps)
AllHeld-met held s ps e h = AllHeld-append held _ (opening s ∷ []) (AllHeld-linked held s ps h) (e, tt)

pub reads-met : (at : ℕ) (s : LexState) (p : SegmentValue) (ps : List SegmentValue) → p.next ≡ State s → ReadsOn at [] (p ∷ ps) (met s (p ∷ ps))
unfolding shared_from
reads-met at s p ps stands =
    record {
      all = λ w k start t u low here e. follow-met s (p ∷ ps) k low w ∙ e ∙ ap (lex t start) (sym (append-nil u));
      segments = λ w. AreIn-linked (meeting_heads s) (p ∷ ps) (opening s ∷ []) (IsIn-meeting s) w (tt, tt);
      many = let a = length-append (linked_of s (p ∷ ps)) (opening s ∷ []) in let b = length-linked (meeting_heads s) (p ∷ ps) in omega (arith, a, b);
      counted = λ held h. let a = stored-met s (p ∷ ps) in omega (arith, a);
      held = λ held h. AllHeld-met held s (p ∷ ps) (subst (HeldAt held) stands h.0) h;
      placed = λ from le h.
          ArePlaced-append from (at + 0) (linked_of s (p ∷ ps)) (opening s ∷ [])
          (ArePlaced-linked (meeting_heads s) from (at + 0) (p ∷ ps) (ArePlaced-wider from at from (at + 0) (p ∷ ps) (omega arith) (omega arith) h))
          (tt, tt);
    }
  where
    linked_of : LexState → List SegmentValue → List SegmentValue
    linked_of s qs = linked_segments (meeting_heads s) qs

-- ---- the tracks of a bundle read on

pub AllHeld-live : (live : List Bool) (held : List LexState) (ps : List SegmentValue) → Within live held → AllLive live ps → AllHeld held ps
AllHeld-live live held [] w h = tt
AllHeld-live live held (p ∷ ps) w h = (go p.next h.0, AllHeld-live live held ps w h.1)
  where
    go : (g : Link) → LiveAt live g → HeldAt held g
    go (State s) l = w s l
    go (Ahead k) l = tt
    go (Fault at) l = tt

IsIn-longer : (n m : ℕ) (g : Link) → n ≤ m → IsIn n g → IsIn m g
IsIn-longer n m (Ahead k) le h = omega (arith, le, h)
IsIn-longer n m (State s) le h = tt
IsIn-longer n m (Fault at) le h = tt

pub Reads-on : (at : ℕ) (w : List ℕ) (live : List Bool) (b : Bundle) (new : List SegmentValue)
    → IsBundleOf at [] live b → Stands [] live b → ((s : LexState) → IsClosed (head b.heads s)) → ReadsOn at w b.segments new
    → IsBundleOf at w live (record { heads = b.heads; segments = new; live = b.live })
unfolding follow lex shared_from
Reads-on at w live b new r st closed on =
    record {
      all = r.all;
      heads = λ s. IsIn-longer (length b.segments) (length new) (head b.heads s) on.many (r.heads s);
      segments = on.segments r.segments;
      tracks = λ s l. go s (head b.heads s) (closed s) (r.heads s) (r.tracks s l);
      counted = λ held h.
          let c = r.counted held h in
          let d = on.counted held (AllHeld-live b.live held b.segments (st.held held h) st.segments) in
          let z = shared-none held in
          omega (arith, c, d, z);
      placed = on.placed at (omega arith) (ArePlaced-wider at (at + 0) at at b.segments (omega arith) (omega arith) r.placed);
    }
  where
    shared-none : (held : List LexState) → shared_from held [] ≡ 0
    shared-none held = refl

    go : (s : LexState) (g : Link) → IsClosed g → IsIn (length b.segments) g → follow b.segments g ≡ lex s at [] → follow new g ≡ lex s at w
    go s (State t) c i e = absurd c
    go s (Ahead k) c i e = on.all r.segments k at s [] i (let z : at ≡ at + 0 = omega arith in z) e
    go s (Fault f) c i e = let x : LexExit.fault f ≡ LexExit.state s = ap (λ (t : Track). t.exit) e in absurd cc

-- ---- pieces of a text

pub reads-slices : (xs : List ℕ) (a b c : ℕ) (ps qs rs : List SegmentValue) → a ≤ b → b ≤ c → c ≤ length xs
    → ReadsOn a (slice_range xs a b) ps qs → ReadsOn b (slice_range xs b c) qs rs → ReadsOn a (slice_range xs a c) ps rs
reads-slices xs a b c ps qs rs low high fits f g =
    let n : b ≡ a + length (slice_range xs a b) = slice-length xs a b low (omega (arith, high, fits)) in
    subst (λ w. ReadsOn a w ps rs) (sym (slice-split xs a b c low high))
    (reads-then a (slice_range xs a b) (slice_range xs b c) ps qs rs f (subst (λ i. ReadsOn i (slice_range xs b c) qs rs) n g))

slice-one : (xs : List ℕ) (i : ℕ) → i < length xs → slice_range xs i (i + 1) ≡ get_or xs i 0 ∷ []
slice-one xs i low = slice-more xs i i 0 (omega arith) low ∙ ap (λ ys. ys ++ get_or xs i 0 ∷ []) (slice-none xs i)

-- two that stand apart read one byte, and then a stretch
pub reads-step : (xs : List ℕ) (from i j : ℕ) (f0 s0 f s f1 s1 f2 s2 : SegmentValue) → from ≤ i → i < length xs → i + 1 ≤ j → j ≤ length xs
    → ReadsOn from (slice_range xs from i) (f0 ∷ s0 ∷ []) (f ∷ s ∷ [])
    → is_apart f.next s.next ≡ true
    → f1 ≡ read_segment i (get_or xs i 0) f → s1 ≡ read_segment i (get_or xs i 0) s
    → ReadsOn (i + 1) (slice_range xs (i + 1) j) (f1 ∷ s1 ∷ []) (f2 ∷ s2 ∷ [])
    → ReadsOn from (slice_range xs from j) (f0 ∷ s0 ∷ []) (f2 ∷ s2 ∷ [])
reads-step xs from i j f0 s0 f s f1 s1 f2 s2 low here more fits before apart one two rest =
    let byte : ReadsOn i (slice_range xs i (i + 1)) (f ∷ s ∷ []) (f1 ∷ s1 ∷ []) = rw (slice-one xs i here, one, two) (reads-apart i (get_or xs i 0) f s apart) in
    reads-slices xs from i j (f0 ∷ s0 ∷ []) (f ∷ s ∷ []) (f2 ∷ s2 ∷ []) low (omega (arith, more)) fits before
    (reads-slices xs i (i + 1) j (f ∷ s ∷ []) (f1 ∷ s1 ∷ []) (f2 ∷ s2 ∷ []) (omega arith) more fits byte rest)

-- two that read to the end, one of which leads out where something is left
pub reads-rest : (xs : List ℕ) (i to : ℕ) (p q : SegmentValue) → i ≤ to → to ≤ length xs → (i < to → is_apart p.next q.next ≡ false)
    → ((s : LexState) → p.next ≡ State s → q.next ≡ State s → ⊥)
    → ReadsOn i (slice_range xs i to) (p ∷ q ∷ []) (read_bytes i (slice_range xs i to) p ∷ read_bytes i (slice_range xs i to) q ∷ [])
reads-rest xs i to p q low fits done differ = go (nat_lt i to) refl
  where
    go : (b : Bool) → nat_lt i to ≡ b → ReadsOn i (slice_range xs i to) (p ∷ q ∷ []) (read_bytes i (slice_range xs i to) p ∷ read_bytes i (slice_range xs i to) q ∷ [])
    go true e = let l : i < to = grind (arith, nat_tests, e) in reads-two i (slice_range xs i to) p q (kept-one (slice_range xs i to) p.next q.next (done l) differ)
    go false e =
        let same : i ≡ to = grind (arith, nat_tests, e, low) in
        subst (λ n. ReadsOn i (slice_range xs i n) (p ∷ q ∷ []) (read_bytes i (slice_range xs i n) p ∷ read_bytes i (slice_range xs i n) q ∷ [])) same
        (rw (slice-none xs i) (reads-none i (p ∷ q ∷ [])))

-- no segment at all
pub reads-empty : (at : ℕ) (w : List ℕ) → ReadsOn at w [] []
reads-empty at w =
    record {
      all = λ v k start s u low. absurd (omega (arith, low));
      segments = λ v. v;
      many = omega arith;
      counted = λ held h. omega arith;
      held = λ held h. tt;
      placed = λ from le h. tt;
    }

-- bytes that change none of them
pub reads-kept : (at : ℕ) (w : List ℕ) (ps : List SegmentValue) → AllKept w ps → ReadsOn at w ps ps
reads-kept at w [] h = reads-empty at w
reads-kept at w (p ∷ ps) h =
    subst (λ (q : SegmentValue). ReadsOn at w (p ∷ ps) (q ∷ ps)) (kept-bytes at w p h.0) (reads-middle at w [] ps p tt h.1)

-- two that stand in one state go on in a third
met-two : (s : LexState) (p q : SegmentValue) → p.next ≡ State s → q.next ≡ State s
    → met s (p ∷ q ∷ []) ≡ record p { next = Ahead 1 } ∷ record q { next = Ahead 0 } ∷ opening s ∷ []
met-two s p q e f =
    ap (λ (g : Link). record p { next = linked (meeting_heads s) 1 g } ∷ record q { next = linked (meeting_heads s) 0 q.next } ∷ opening s ∷ []) e
    ∙ ap (λ (g : Link). record p { next = linked (meeting_heads s) 1 (State s) } ∷ record q { next = linked (meeting_heads s) 0 g } ∷ opening s ∷ []) f
    ∙ ap (λ (h : Link). record p { next = shifted 1 h } ∷ record q { next = shifted 0 h } ∷ opening s ∷ []) here
  where
    here : head (meeting_heads s) s ≡ Ahead 0
    here = head-meeting (λ g. g ≡ Ahead 0) s s (λ e. refl) (λ e. let i = is_itself (ordinal s) in absurd cc)

pub reads-third : (at : ℕ) (w : List ℕ) (s : LexState) (p q : SegmentValue) → p.next ≡ State s → q.next ≡ State s
    → ReadsOn at w (p ∷ q ∷ []) (record p { next = Ahead 1 } ∷ record q { next = Ahead 0 } ∷ read_bytes at w (opening s) ∷ [])
reads-third at w s p q e f =
    let z : at ≡ at + 0 = omega arith in
    let p1 = record p { next = Ahead 1 } in
    let q1 = record q { next = Ahead 0 } in
    reads-then at [] w (p ∷ q ∷ []) (p1 ∷ q1 ∷ opening s ∷ []) (p1 ∷ q1 ∷ read_bytes at w (opening s) ∷ [])
    (subst (ReadsOn at [] (p ∷ q ∷ [])) (met-two s p q e f) (reads-met at s p (q ∷ []) e))
    (subst (λ i. ReadsOn i w (p1 ∷ q1 ∷ opening s ∷ []) (p1 ∷ q1 ∷ read_bytes at w (opening s) ∷ [])) z
    (reads-middle at w (p1 ∷ q1 ∷ []) [] (opening s) (tt, (tt, tt)) tt))

-- ---- a span from every state

pub Reads-rest : (at : ℕ) (w : List ℕ) (live : List Bool) (o r : Bundle) → IsBundleOf at [] live o → Stands [] live o → ((s : LexState) → IsClosed (head o.heads s))
    → r.heads ≡ o.heads → r.live ≡ o.live → ReadsOn at w o.segments r.segments → IsBundleOf at w live r
Reads-rest at w live o r ro so closed e f on =
    subst (λ (ls : List Bool). IsBundleOf at w live (record { heads = r.heads; segments = r.segments; live = ls })) (sym f)
    (subst (λ (hs : List Link). IsBundleOf at w live (record { heads = hs; segments = r.segments; live = o.live })) (sym e) (Reads-on at w live o r.segments ro so closed on))

-- what was read up to some byte, and then the open tracks alone to the end
pub span-read : (start at : ℕ) (u w : List ℕ) (live : List Bool) (l o r b : Bundle) → at ≡ start + length u → IsBundleOf start u live l → Stands u live l
    → IsBundleOf at [] l.live o → Stands [] l.live o → ((s : LexState) → IsClosed (head o.heads s))
    → r.heads ≡ o.heads → r.live ≡ o.live → ReadsOn at w o.segments r.segments → b ≡ joined_bundle l r
    → IsBundleOf start (u ++ w) live b × AreClosed 0 b.heads b.segments
span-read start at u w live l o r b here rl sl ro so closed e f on same =
    subst (λ (x : Bundle). IsBundleOf start (u ++ w) live x × AreClosed 0 x.heads x.segments) (sym same) (
      Reads-joined start at u w live l r here rl sl (Reads-rest at w l.live o r ro so closed e f on),
      AreClosed-bundle l r rl.all (subst (λ (hs : List Link). (s : LexState) → IsClosed (head hs s)) (sym e) closed),
    )
