-- A bundle is built state by state.
use Rattle.std.proofs.Common.{◌≡◌, ◌≢◌, ℕ, zero, suc, ◌+◌, ◌<◌, ◌≤◌, List, [], ◌∷◌, ◌++◌, length, get_or, set, take, refl, ap, sym, subst, ◌∙◌, arith, length-append, length-set, map, Bool, true, false, cond, ◌==◌, ◌&&◌, sum_by, count_by, replicate, Option, Some, None, is_some, is_none, if◌then◌else◌}
use Rattle.std.proofs.lemmas.List.{get_or-set_same, get_or-set_other, get_or-replicate, get_or-map}
use Rattle.std.proofs.lemmas.List.Sums.{sum_by_more, sum_by-le-sum_by, count_by_more_yes, count_by_more_no}
use Rattle.jx_lex.specs.declared.alphabet.state.LexState.{LexState}
use Rattle.jx_lex.specs.declared.alphabet.state.LexState.TheVariants as state
use Rattle.jx_lex.specs.declared.alphabet.mark.MarkKind.{MarkKind}
use Rattle.jx_lex.specs.declared.alphabet.state.TokenEnd.{TokenEnd}
use Rattle.jx_maps.specs.declared.link.Link.{Link}
use Rattle.jx_maps.specs.declared.link.Link.TheVariants.{Ahead, State, Fault}
use Rattle.jx_lex.specs.Moves.{move}
use Rattle.jx_lex.specs.Lex.{Track, lex, with_mark, with_end, on_next}
use Rattle.jx_lex.specs.Ordinal.{ordinal, all_states}
use Rattle.jx_maps.specs.Follow.{SegmentValue, behind, follow, IsIn, AreIn, head, shifted, linked, linked_segments}
use Rattle.jx_maps.specs.inside.Closed.{IsClosed, AreClosed}
use Rattle.jx_maps.specs.inside.Step.{link_of, read_segment, opening}
use Rattle.jx_maps.specs.Map.{stored, MarksIn, ArePlaced, IsOf, IsLinked}
use Rattle.jx_maps.specs.Shared.{has, held_after, begins, beginning, shared_from, after}
use Rattle.jx_maps.specs.inside.Bundle.{Bundle, is_live, LiveAt, AllLive, Within, IsBundleOf, Stands, with_segment, with_exit, with_byte, more_live, is_quiet}
use Rattle.jx_maps.proofs.Joined.{follow-shifted, head-map}
use Rattle.jx_lex.proofs.StateOrder.{ordinal-at, ordinal-low, same_ordinal, state-read}
use Rattle.jx_lex.proofs.OneByte.{one, one-is}
use Rattle.jx_maps.proofs.Reading.{follow-read}
use Rattle.jx_maps.proofs.Counting.{stored-append, has-after, has-all}
use Rattle.jx_maps.proofs.Placing.{ArePlaced-append}

-- the marks of a live state's own track
abbrev pub own : ℕ → List ℕ → List Bool → LexState → ℕ
own at bytes live s = cond (is_live live s) (length ((lex s at bytes).marks)) 0

-- the tracks from the first i states are there
pub record Built (at : ℕ) (bytes : List ℕ) (live : List Bool) (i : ℕ) (b : Bundle) : Type 0 where
  pub all : length b.heads ≡ 32
  pub heads : (s : LexState) → IsIn (length b.segments) (head b.heads s)
  pub segments : AreIn b.segments
  pub tracks : (s : LexState) → ordinal s < i → is_live live s ≡ true → follow b.segments (head b.heads s) ≡ lex s at bytes
  pub counted : stored b.segments ≤ sum_by (own at bytes live) (take i all_states)
  pub placed : ArePlaced at (at + length bytes) b.segments

-- ---- a head is set

pub head-set : (P : Link → Type 0) (heads : List Link) (s u : LexState) (g : Link) → length heads ≡ 32 → (u ≡ s → P g) → (ordinal u ≢ ordinal s → P (head heads u))
    → P (head (set heads (ordinal s) g) u)
head-set P heads s u g all here there = go (ordinal u == ordinal s) refl
  where
    go : (b : Bool) → (ordinal u == ordinal s) ≡ b → P (head (set heads (ordinal s) g) u)
    go true e =
        let n : ordinal u ≡ ordinal s = grind (arith, e) in
        rw n (subst P (sym (get_or-set_same heads (ordinal s) g (Fault 0) (rw all (ordinal-low s)))) (here (same_ordinal u s n)))
    go false e =
        let n : ordinal u ≢ ordinal s = grind (arith, e) in
        subst P (sym (get_or-set_other heads (ordinal s) (ordinal u) g (Fault 0) n)) (there n)

-- ---- segments at the end

IsIn-more : (n m : ℕ) (g : Link) → n ≤ m → IsIn n g → IsIn m g
IsIn-more n m (Ahead k) le h = omega (arith, le, h)
IsIn-more n m (State s) le h = tt
IsIn-more n m (Fault at) le h = tt

AreIn-append : (ps qs : List SegmentValue) → AreIn ps → AreIn qs → AreIn (ps ++ qs)
AreIn-append [] qs w v = v
AreIn-append (p ∷ ps) qs w v =
    let e = length-append ps qs in
    (IsIn-more (length ps) (length (ps ++ qs)) p.next (omega (arith, e)) w.0, AreIn-append ps qs w.1 v)

follow-append : (ps qs : List SegmentValue) (g : Link) → IsIn (length ps) g → AreIn ps → follow (ps ++ qs) g ≡ follow ps g
unfolding follow
follow-append ps qs (State s) h w = refl
follow-append ps qs (Fault at) h w = refl
follow-append [] qs (Ahead k) h w = absurd (omega (arith, h))
follow-append (p ∷ ps) qs (Ahead zero) h w = ap (behind p) (follow-append ps qs p.next w.0 w.1)
follow-append (p ∷ ps) qs (Ahead (suc k)) h w = follow-append ps qs (Ahead k) (omega (arith, h)) w.1

follow-last : (ps : List SegmentValue) (p : SegmentValue) → follow (ps ++ p ∷ []) (Ahead (length ps)) ≡ follow (p ∷ []) (Ahead 0)
follow-last ps p =
    let e : length ps ≡ length ps + 0 = omega arith in
    ap (λ n. follow (ps ++ p ∷ []) (Ahead n)) e ∙ follow-shifted ps (p ∷ []) (Ahead 0)

-- ---- the steps

sum-more : (f : LexState → ℕ) (s : LexState) → sum_by f (take (ordinal s + 1) all_states) ≡ sum_by f (take (ordinal s) all_states) + f s
sum-more f s = sum_by_more f all_states (ordinal s) state.Gap (ordinal-low s) ∙ ap (λ t. sum_by f (take (ordinal s) all_states) + f t) (state-read s)

pub Built-segment : (at : ℕ) (bytes : List ℕ) (live more : List Bool) (s : LexState) (p : SegmentValue) (b : Bundle)
    → is_live live s ≡ true → IsIn 0 p.next → follow (p ∷ []) (Ahead 0) ≡ lex s at bytes → length p.marks ≡ length ((lex s at bytes).marks) → MarksIn at (at + length bytes) p.marks
    → Built at bytes live (ordinal s) b → Built at bytes live (ordinal s + 1) (with_segment s p more b)
Built-segment at bytes live more s p b l out is long place h =
    let n : length (b.segments ++ p ∷ []) ≡ length b.segments + 1 = length-append b.segments (p ∷ []) in
    record {
      all = length-set b.heads (ordinal s) (Ahead (length b.segments)) ∙ h.all;
      heads = λ u. head-set (IsIn (length (b.segments ++ p ∷ []))) b.heads s u (Ahead (length b.segments)) h.all
          (λ e. omega (arith, n))
          (λ e. IsIn-more (length b.segments) (length (b.segments ++ p ∷ [])) (head b.heads u) (omega (arith, n)) (h.heads u));
      segments = AreIn-append b.segments (p ∷ []) h.segments (out, tt);
      tracks = λ u low u_live. head-set (λ g. follow (b.segments ++ p ∷ []) g ≡ lex u at bytes) b.heads s u (Ahead (length b.segments)) h.all
          (λ e. follow-last b.segments p ∙ is ∙ ap (λ t. lex t at bytes) (sym e))
          (λ e. follow-append b.segments (p ∷ []) (head b.heads u) (h.heads u) h.segments ∙ h.tracks u (omega (arith, low, e)) u_live);
      counted =
          let a = stored-append b.segments (p ∷ []) in
          let c = h.counted in
          let d = sum-more (own at bytes live) s in
          let o : own at bytes live s ≡ length ((lex s at bytes).marks) = ap (λ t. cond t (length ((lex s at bytes).marks)) 0) l in
          omega (arith, a, c, d, o, long);
      placed = ArePlaced-append at (at + length bytes) b.segments (p ∷ []) h.placed (place, tt);
    }

pub Built-exit : (at : ℕ) (bytes : List ℕ) (live more : List Bool) (s : LexState) (g : Link) (b : Bundle)
    → IsIn 0 g → ((ps : List SegmentValue) → follow ps g ≡ lex s at bytes)
    → Built at bytes live (ordinal s) b → Built at bytes live (ordinal s + 1) (with_exit s g more b)
Built-exit at bytes live more s g b out is h =
    record {
      all = length-set b.heads (ordinal s) g ∙ h.all;
      heads = λ u. head-set (IsIn (length b.segments)) b.heads s u g h.all (λ e. IsIn-more 0 (length b.segments) g (omega arith) out) (λ e. h.heads u);
      segments = h.segments;
      tracks = λ u low u_live. head-set (λ g. follow b.segments g ≡ lex u at bytes) b.heads s u g h.all
          (λ e. is b.segments ∙ ap (λ t. lex t at bytes) (sym e))
          (λ e. h.tracks u (omega (arith, low, e)) u_live);
      counted = let c = h.counted in let d = sum-more (own at bytes live) s in omega (arith, c, d);
      placed = h.placed;
    }

-- from a state that is not live there is no track
pub Built-none : (at : ℕ) (bytes : List ℕ) (live : List Bool) (s : LexState) (b : Bundle) → is_live live s ≡ false
    → Built at bytes live (ordinal s) b → Built at bytes live (ordinal s + 1) b
Built-none at bytes live s b l h =
    record {
      all = h.all;
      heads = h.heads;
      segments = h.segments;
      tracks = λ u low u_live. go u low u_live (ordinal u == ordinal s) refl;
      counted = let c = h.counted in let d = sum-more (own at bytes live) s in omega (arith, c, d);
      placed = h.placed;
    }
  where
    go : (u : LexState) → ordinal u < ordinal s + 1 → is_live live u ≡ true → (c : Bool) → (ordinal u == ordinal s) ≡ c → follow b.segments (head b.heads u) ≡ lex u at bytes
    go u low u_live true e =
        let n : ordinal u ≡ ordinal s = grind (arith, e) in
        let i : u ≡ s = same_ordinal u s n in
        let q : is_live live s ≡ true = subst (λ t. is_live live t ≡ true) i u_live in
        absurd cc
    go u low u_live false e =
        let n : ordinal u ≢ ordinal s = grind (arith, e) in
        h.tracks u (omega (arith, low, n)) u_live

no-heads : (s : LexState) → head (replicate 32 (Fault 0)) s ≡ Fault 0
no-heads s = get_or-replicate 32 (ordinal s) (Fault 0) (Fault 0) (ordinal-low s)

-- before the first state
pub Built-start : (at : ℕ) (bytes : List ℕ) (live more : List Bool) → Built at bytes live 0 (record { heads = replicate 32 (Fault 0); segments = []; live = more })
Built-start at bytes live more =
    record {
      all = refl;
      heads = λ s. subst (IsIn 0) (sym (no-heads s)) tt;
      segments = tt;
      tracks = λ s low l. absurd (omega (arith, low));
      counted = omega arith;
      placed = tt;
    }

-- ---- one byte

pub follow-one : (at byte : ℕ) (s : LexState) → follow (read_segment at byte (opening s) ∷ []) (Ahead 0) ≡ lex s at (byte ∷ [])
unfolding follow
follow-one at byte s = follow-read at byte (opening s ∷ []) 0 (omega arith) (tt, tt) ∙ no-start (one at byte s)
  where
    no-start : (t : Track) → record { marks = [] ++ t.marks; ends = [] ++ t.ends; exit = t.exit } ≡ t
    no-start t = refl

IsIn-link_of : (at : ℕ) (m : Option LexState) → IsIn 0 (link_of at m)
IsIn-link_of at None = tt
IsIn-link_of at (Some s) = tt

marks-one : (at byte : ℕ) (s : LexState) → length ((read_segment at byte (opening s)).marks) ≡ length ((lex s at (byte ∷ [])).marks)
marks-one at byte s = ap (λ (t : Track). length t.marks) (sym (one-is at byte s))

MarksIn-one : (at : ℕ) (m : Option MarkKind) → MarksIn at (at + 1) ([] ++ with_mark m at [])
MarksIn-one at None = tt
MarksIn-one at (Some k) = (omega arith, omega arith, tt)

-- a byte with no event leads straight to the next state
quiet-one : (at byte : ℕ) (s : LexState) → is_quiet (move s byte) ≡ true → (ps : List SegmentValue) → follow ps (link_of at ((move s byte).next)) ≡ lex s at (byte ∷ [])
unfolding follow lex
quiet-one at byte s q ps = go ((move s byte).end) ((move s byte).begin) ((move s byte).next) q ∙ sym (one-is at byte s)
  where
    go : (e : Option TokenEnd) (m : Option MarkKind) (n : Option LexState) → (is_none e && is_none m) ≡ true
        → follow ps (link_of at n) ≡ record { marks = with_mark m at []; ends = with_end e at []; exit = (on_next n at (λ n. lex n (suc at) [])).exit }
    go None None None q = refl
    go None None (Some n) q = refl
    go None (Some k) n q = absurd cc
    go (Some e) m n q = absurd cc

pub Built-byte : (at byte : ℕ) (live : List Bool) (s : LexState) (b : Bundle) → is_live live s ≡ true
    → Built at (byte ∷ []) live (ordinal s) b → Built at (byte ∷ []) live (ordinal s + 1) (with_byte at byte s b)
Built-byte at byte live s b l h = go (is_quiet (move s byte)) refl
  where
    go : (q : Bool) → is_quiet (move s byte) ≡ q → Built at (byte ∷ []) live (ordinal s + 1)
        (if q then with_exit s (link_of at ((move s byte).next)) (more_live ((move s byte).next) b.live) b
        else with_segment s (read_segment at byte (opening s)) (more_live ((move s byte).next) b.live) b)
    go true q = Built-exit at (byte ∷ []) live _ s (link_of at ((move s byte).next)) b (IsIn-link_of at ((move s byte).next)) (quiet-one at byte s q) h
    go false q = Built-segment at (byte ∷ []) live _ s (read_segment at byte (opening s)) b l (IsIn-link_of at ((move s byte).next)) (follow-one at byte s) (marks-one at byte s) (MarksIn-one at ((move s byte).begin)) h

own-le : (at byte : ℕ) (live : List Bool) (held : List LexState) → Within live held → (s : LexState) → own at (byte ∷ []) live s ≤ cond (has s held && begins byte s) 1 0
own-le at byte live held w s = go (is_live live s) refl
  where
    marks : length ((lex s at (byte ∷ [])).marks) ≡ cond (begins byte s) 1 0
    marks = ap (λ (t : Track). length t.marks) (one-is at byte s) ∙ few ((move s byte).begin)
      where
        few : (m : Option MarkKind) → length (with_mark m at []) ≡ cond (is_some m) 1 0
        few None = refl
        few (Some k) = refl

    go : (c : Bool) → is_live live s ≡ c → cond c (length ((lex s at (byte ∷ [])).marks)) 0 ≤ cond (has s held && begins byte s) 1 0
    go false e = omega arith
    go true e = rw (marks, w s e) (let z : cond (begins byte s) 1 0 ≤ cond (true && begins byte s) 1 0 = omega arith in z)

pub Reads-built : (at byte : ℕ) (live : List Bool) (b : Bundle) → Built at (byte ∷ []) live 32 b → IsBundleOf at (byte ∷ []) live b
unfolding shared_from
Reads-built at byte live b h =
    record {
      all = h.all;
      heads = h.heads;
      segments = h.segments;
      tracks = λ s. h.tracks s (ordinal-low s);
      counted = λ held w.
          let c : stored b.segments ≤ sum_by (own at (byte ∷ []) live) all_states = h.counted in
          let d : sum_by (own at (byte ∷ []) live) all_states ≤ beginning byte held =
          sum_by-le-sum_by (own at (byte ∷ []) live) (λ s. cond (has s held && begins byte s) 1 0) all_states (own-le at byte live held w) in
          omega (arith, c, d);
      placed = h.placed;
    }

-- ---- nothing read yet

pub follow-open : (at : ℕ) (s : LexState) → follow (opening s ∷ []) (Ahead 0) ≡ lex s at []
unfolding follow lex
follow-open at s = refl

pub Built-open : (at : ℕ) (live : List Bool) (s : LexState) (b : Bundle) → is_live live s ≡ true
    → Built at [] live (ordinal s) b → Built at [] live (ordinal s + 1) (with_segment s (opening s) b.live b)
unfolding lex
Built-open at live s b l h = Built-segment at [] live b.live s (opening s) b l tt (follow-open at s) refl tt h

own-none : (at : ℕ) (live : List Bool) (s : LexState) → own at [] live s ≤ 0
unfolding lex
own-none at live s = go (is_live live s)
  where
    go : (c : Bool) → cond c 0 0 ≤ 0
    go true = omega arith
    go false = omega arith

pub Reads-open : (at : ℕ) (live : List Bool) (b : Bundle) → Built at [] live 32 b → IsBundleOf at [] live b
unfolding shared_from
Reads-open at live b h =
    record {
      all = h.all;
      heads = h.heads;
      segments = h.segments;
      tracks = λ s. h.tracks s (ordinal-low s);
      counted = λ held w.
          let c : stored b.segments ≤ sum_by (own at [] live) all_states = h.counted in
          let d : sum_by (own at [] live) all_states ≤ sum_by (λ s. 0) all_states = sum_by-le-sum_by (own at [] live) (λ s. 0) all_states (own-none at live) in
          omega (arith, c, d);
      placed = h.placed;
    }

-- ---- state by state

-- the state of this number in a list that is that of all states
pub ordinal-in : (xs : List LexState) (i : ℕ) → xs ≡ all_states → i < 32 → ordinal (get_or xs i state.Gap) ≡ i
ordinal-in xs i e low = ap (λ ys. ordinal (get_or ys i state.Gap)) e ∙ ordinal-at i low

pub Built-where : (at byte : ℕ) (live : List Bool) (i : ℕ) (s : LexState) (b : Bundle) → ordinal s ≡ i → Built at (byte ∷ []) live i b
    → Built at (byte ∷ []) live (i + 1) (if is_live live s then with_byte at byte s b else b)
Built-where at byte live i s b e h = subst (λ n. Built at (byte ∷ []) live (n + 1) (if is_live live s then with_byte at byte s b else b)) e (go (is_live live s) refl)
  where
    here : Built at (byte ∷ []) live (ordinal s) b
    here = subst (λ n. Built at (byte ∷ []) live n b) (sym e) h

    go : (c : Bool) → is_live live s ≡ c → Built at (byte ∷ []) live (ordinal s + 1) (if c then with_byte at byte s b else b)
    go true l = Built-byte at byte live s b l here
    go false l = Built-none at (byte ∷ []) live s b l here

-- ---- the live states

pub live-set : (P : Bool → Type 0) (live : List Bool) (n u : LexState) → length live ≡ 32 → (u ≡ n → P true) → (ordinal u ≢ ordinal n → P (is_live live u))
    → P (is_live (set live (ordinal n) true) u)
live-set P live n u all here there = go (ordinal u == ordinal n) refl
  where
    go : (b : Bool) → (ordinal u == ordinal n) ≡ b → P (is_live (set live (ordinal n) true) u)
    go true e =
        let m : ordinal u ≡ ordinal n = grind (arith, e) in
        rw m (subst P (sym (get_or-set_same live (ordinal n) true false (rw all (ordinal-low n)))) (here (same_ordinal u n m)))
    go false e =
        let m : ordinal u ≢ ordinal n = grind (arith, e) in
        subst P (sym (get_or-set_other live (ordinal n) (ordinal u) true false m)) (there m)

live-more : (m : Option LexState) (live : List Bool) (u : LexState) → length live ≡ 32 → is_live live u ≡ true → is_live (more_live m live) u ≡ true
live-more None live u all l = l
live-more (Some n) live u all l = live-set (λ b. b ≡ true) live n u all (λ e. refl) (λ e. l)

pub live-new : (n : LexState) (live : List Bool) → length live ≡ 32 → is_live (more_live (Some n) live) n ≡ true
live-new n live all = get_or-set_same live (ordinal n) true false (rw all (ordinal-low n))

pub LiveAt-more : (m : Option LexState) (live : List Bool) (g : Link) → length live ≡ 32 → LiveAt live g → LiveAt (more_live m live) g
LiveAt-more m live (State s) all l = live-more m live s all l
LiveAt-more m live (Ahead k) all l = tt
LiveAt-more m live (Fault at) all l = tt

pub AllLive-more : (m : Option LexState) (live : List Bool) (ps : List SegmentValue) → length live ≡ 32 → AllLive live ps → AllLive (more_live m live) ps
AllLive-more m live [] all l = tt
AllLive-more m live (p ∷ ps) all l = (LiveAt-more m live p.next all l.0, AllLive-more m live ps all l.1)

pub AllLive-append : (live : List Bool) (ps qs : List SegmentValue) → AllLive live ps → AllLive live qs → AllLive live (ps ++ qs)
AllLive-append live [] qs l k = k
AllLive-append live (p ∷ ps) qs l k = (l.0, AllLive-append live ps qs l.1 k)

LiveAt-link_of : (at : ℕ) (m : Option LexState) (live : List Bool) → length live ≡ 32 → LiveAt (more_live m live) (link_of at m)
LiveAt-link_of at None live all = tt
LiveAt-link_of at (Some n) live all = live-new n live all

length-more : (m : Option LexState) (live : List Bool) → length (more_live m live) ≡ length live
length-more None live = refl
length-more (Some n) live = length-set live (ordinal n) true

held-more : (byte : ℕ) (live now : List Bool) (s : LexState) → is_live live s ≡ true → length now ≡ 32
    → (m : Option LexState) → (move s byte).next ≡ m → (held : List LexState) → Within live held → Within now (after held (byte ∷ [])) → Within (more_live m now) (after held (byte ∷ []))
held-more byte live now s l all None e held w h u k = h u k
held-more byte live now s l all (Some n) e held w h u k = live-set (λ b. b ≡ true → has u (held_after byte held) ≡ true) now n u all
    (λ q x. subst (λ t. has t (held_after byte held) ≡ true) (sym q) (has-after byte s n held (w s l) e))
    (λ q x. h u x) k

Stands-byte : (at byte : ℕ) (live : List Bool) (s : LexState) (b : Bundle) → length b.heads ≡ 32 → is_live live s ≡ true
    → Stands (byte ∷ []) live b → Stands (byte ∷ []) live (with_byte at byte s b)
Stands-byte at byte live s b heads l h = go (is_quiet (move s byte))
  where
    next : Option LexState
    next = (move s byte).next

    go : (q : Bool) → Stands (byte ∷ []) live
        (if q then with_exit s (link_of at ((move s byte).next)) (more_live ((move s byte).next) b.live) b
        else with_segment s (read_segment at byte (opening s)) (more_live ((move s byte).next) b.live) b)
    go true =
        record {
          all = length-more ((move s byte).next) b.live ∙ h.all;
          heads = λ u. head-set (LiveAt (more_live ((move s byte).next) b.live)) b.heads s u (link_of at ((move s byte).next)) heads
              (λ e. LiveAt-link_of at ((move s byte).next) b.live h.all)
              (λ e. LiveAt-more ((move s byte).next) b.live (head b.heads u) h.all (h.heads u));
          segments = AllLive-more ((move s byte).next) b.live b.segments h.all h.segments;
          held = λ held w. held-more byte live b.live s l h.all ((move s byte).next) refl held w (h.held held w);
        }
    go false =
        record {
          all = length-more ((move s byte).next) b.live ∙ h.all;
          heads = λ u. head-set (LiveAt (more_live ((move s byte).next) b.live)) b.heads s u (Ahead (length b.segments)) heads
              (λ e. tt)
              (λ e. LiveAt-more ((move s byte).next) b.live (head b.heads u) h.all (h.heads u));
          segments = AllLive-append (more_live ((move s byte).next) b.live) b.segments (read_segment at byte (opening s) ∷ []) (AllLive-more ((move s byte).next) b.live b.segments h.all h.segments)
              (LiveAt-link_of at ((move s byte).next) b.live h.all, tt);
          held = λ held w. held-more byte live b.live s l h.all ((move s byte).next) refl held w (h.held held w);
        }

pub Stands-where : (at byte : ℕ) (live : List Bool) (s : LexState) (b : Bundle) → length b.heads ≡ 32 → Stands (byte ∷ []) live b
    → Stands (byte ∷ []) live (if is_live live s then with_byte at byte s b else b)
Stands-where at byte live s b heads h = go (is_live live s) refl
  where
    go : (c : Bool) → is_live live s ≡ c → Stands (byte ∷ []) live (if c then with_byte at byte s b else b)
    go true l = Stands-byte at byte live s b heads l h
    go false l = h

none-live : (u : LexState) → is_live (replicate 32 false) u ≡ true → ⊥
none-live u l = let e : is_live (replicate 32 false) u ≡ false = get_or-replicate 32 (ordinal u) false false (ordinal-low u) in absurd cc

-- no state is live yet
pub Stands-start : (bytes : List ℕ) (live : List Bool) → Stands bytes live (record { heads = replicate 32 (Fault 0); segments = []; live = replicate 32 false })
Stands-start bytes live =
    record {
      all = refl;
      heads = λ s. subst (LiveAt (replicate 32 false)) (sym (no-heads s)) tt;
      segments = tt;
      held = λ held w u l. absurd (none-live u l);
    }

-- ---- a segment for each live state

pub record Opened (live : List Bool) (i : ℕ) (b : Bundle) : Type 0 where
  pub built : (at : ℕ) → Built at [] live i b
  pub stands : Stands [] live b
  pub closed : (s : LexState) → IsClosed (head b.heads s)
  pub count : length b.segments ≡ count_by (is_live live) (take i all_states)
  pub same : b.live ≡ live

pub Opened-start : (live : List Bool) → length live ≡ 32 → Opened live 0 (record { heads = replicate 32 (Fault 0); segments = []; live = live })
Opened-start live all =
    record {
      built = λ at. Built-start at [] live live;
      stands = record { all = all; heads = λ s. subst (LiveAt live) (sym (no-heads s)) tt; segments = tt; held = λ held w. w };
      closed = λ s. subst IsClosed (sym (no-heads s)) tt;
      count = refl;
      same = refl;
    }

pub Opened-where : (live : List Bool) (i : ℕ) (s : LexState) (b : Bundle) → ordinal s ≡ i → Opened live i b
    → Opened live (i + 1) (if is_live live s then with_segment s (opening s) b.live b else b)
Opened-where live i s b e h = subst (λ n. Opened live (n + 1) (if is_live live s then with_segment s (opening s) b.live b else b)) e (go (is_live live s) refl)
  where
    here : Opened live (ordinal s) b
    here = subst (λ n. Opened live n b) (sym e) h

    all_heads : length b.heads ≡ 32
    all_heads = (h.built 0).all

    go : (c : Bool) → is_live live s ≡ c → Opened live (ordinal s + 1) (if c then with_segment s (opening s) b.live b else b)
    go true l =
        record {
          built = λ at. Built-open at live s b l (here.built at);
          stands =
              record {
                all = h.stands.all;
                heads = λ u. head-set (LiveAt b.live) b.heads s u (Ahead (length b.segments)) all_heads (λ q. tt) (λ q. h.stands.heads u);
                segments = AllLive-append b.live b.segments (opening s ∷ []) h.stands.segments (subst (λ x. is_live x s ≡ true) (sym h.same) l, tt);
                held = h.stands.held;
              };
          closed = λ u. head-set IsClosed b.heads s u (Ahead (length b.segments)) all_heads (λ q. tt) (λ q. h.closed u);
          count =
              let a = length-append b.segments (opening s ∷ []) in
              let k = count_by_more_yes (is_live live) all_states (ordinal s) state.Gap (ordinal-low s) (ap (is_live live) (state-read s) ∙ l) in
              let c = here.count in
              omega (arith, a, k, c);
          same = h.same;
        }
    go false l =
        record {
          built = λ at. Built-none at [] live s b l (here.built at);
          stands = h.stands;
          closed = h.closed;
          count =
              let k = count_by_more_no (is_live live) all_states (ordinal s) state.Gap (ordinal-low s) (ap (is_live live) (state-read s) ∙ l) in
              here.count ∙ sym k;
          same = h.same;
        }

-- ---- nothing read, from every state

head-exit : (s : LexState) → head (map State all_states) s ≡ State s
head-exit s = get_or-map State all_states (ordinal s) state.Gap (Fault 0) (ordinal-low s) ∙ ap State (state-read s)

pub every-live : (s : LexState) → is_live (replicate 32 true) s ≡ true
every-live s = get_or-replicate 32 (ordinal s) true false (ordinal-low s)

pub Reads-unread : (at : ℕ) → IsBundleOf at [] (replicate 32 true) (record { heads = map State all_states; segments = []; live = replicate 32 true })
unfolding shared_from follow lex
Reads-unread at =
    record {
      all = refl;
      heads = λ s. subst (IsIn 0) (sym (head-exit s)) tt;
      segments = tt;
      tracks = λ s l. ap (follow []) (head-exit s);
      counted = λ held w. omega arith;
      placed = tt;
    }

pub Stands-unread : Stands [] (replicate 32 true) (record { heads = map State all_states; segments = []; live = replicate 32 true })
Stands-unread =
    record {
      all = refl;
      heads = λ s. subst (LiveAt (replicate 32 true)) (sym (head-exit s)) (every-live s);
      segments = tt;
      held = λ held w. w;
    }

-- ---- the map of a whole span

pub shared-all : (bytes : List ℕ) → Within (replicate 32 true) all_states
shared-all bytes s l = has-all s

pub IsOf-reads : (start end : ℕ) (bytes : List ℕ) (b : Bundle) → end ≡ start + length bytes → IsBundleOf start bytes (replicate 32 true) b
    → IsOf bytes (record { start = start; end = end; heads = b.heads; segments = b.segments })
IsOf-reads start end bytes b long r = record { long = long; tracks = λ s. r.tracks s (every-live s) }

pub IsWhole-reads : (start end : ℕ) (bytes : List ℕ) (live : List Bool) (b : Bundle) → IsBundleOf start bytes live b → IsLinked (record { start = start; end = end; heads = b.heads; segments = b.segments })
IsWhole-reads start end bytes live b r = record { all = r.all; heads = r.heads; segments = r.segments }

pub closed-link : (heads : List Link) (n : ℕ) (g : Link) → ((s : LexState) → IsClosed (head heads s)) → IsClosed (linked heads n g)
closed-link heads n (Ahead k) all = tt
closed-link heads n (Fault at) all = tt
closed-link heads n (State s) all = closed-shift n (head heads s) (all s)
  where
    closed-shift : (n : ℕ) (g : Link) → IsClosed g → IsClosed (shifted n g)
    closed-shift n (Ahead k) h = tt
    closed-shift n (Fault at) h = tt
    closed-shift n (State s) h = h

-- where no track of the right side leads out in a state
pub AreClosed-bundle : (l r : Bundle) → length l.heads ≡ 32 → ((s : LexState) → IsClosed (head r.heads s))
    → AreClosed 0 (map (linked r.heads (length l.segments)) l.heads) (linked_segments r.heads l.segments ++ r.segments)
AreClosed-bundle l r all closed =
    record {
      within = omega arith;
      all = λ s. subst IsClosed (sym (head-map (linked r.heads (length l.segments)) l.heads s all)) (closed-link r.heads (length l.segments) (head l.heads s) closed);
      segments = tt;
    }
