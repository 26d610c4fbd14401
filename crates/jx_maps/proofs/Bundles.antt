-- One bundle of tracks behind another.
use Rattle.std.proofs.Common.{◌≡◌, ℕ, zero, suc, ◌+◌, List, [], ◌∷◌, ◌++◌, length, refl, ap, sym, subst, ◌∙◌, arith, length-append, Bool, true}
use Rattle.std.proofs.lemmas.List.{length-map}
use Rattle.jx_lex.specs.declared.alphabet.state.LexState.{LexState}
use Rattle.jx_maps.specs.declared.link.Link.{Link}
use Rattle.jx_maps.specs.declared.link.Link.TheVariants.{Ahead, State, Fault}
use Rattle.jx_lex.specs.Lex.{Track, LexExit, lex}
use Rattle.jx_maps.specs.Follow.{SegmentValue, follow, IsIn, AreIn, head, shifted, linked, linked_segments}
use Rattle.jx_maps.specs.Shared.{has, held_after, shared_from, after}
use Rattle.jx_maps.specs.inside.Bundle.{Bundle, is_live, LiveAt, AllLive, IsBundleOf, Stands, joined_bundle}
use Rattle.jx_lex.specs.TwoPieces.{joined, right_of}
use Rattle.jx_lex.proofs.LexJoin.{lex-append}
use Rattle.jx_maps.proofs.Joined.{head-map, follow-linked, IsIn-linked, AreIn-linked, length-linked}
use Rattle.jx_maps.proofs.Counting.{stored-append, stored-linked}
use Rattle.jx_maps.proofs.Placing.{ArePlaced-wider, ArePlaced-append, ArePlaced-linked}

-- a track that ends in a state ends in a live one
pub exit-live : (live : List Bool) (ps : List SegmentValue) (g : Link) → LiveAt live g → AllLive live ps → IsIn (length ps) g → AreIn ps
    → (s : LexState) → (follow ps g).exit ≡ LexExit.state s → is_live live s ≡ true
unfolding follow
exit-live live ps (State t) l ls h w s e = let i : t ≡ s = cc in subst (λ x. is_live live x ≡ true) i l
exit-live live ps (Fault at) l ls h w s e = absurd cc
exit-live live [] (Ahead k) l ls h w s e = absurd (omega (arith, h))
exit-live live (p ∷ ps) (Ahead zero) l ls h w s e = exit-live live ps p.next ls.0 ls.1 w.0 w.1 s e
exit-live live (p ∷ ps) (Ahead (suc k)) l ls h w s e = exit-live live ps (Ahead k) tt ls.1 (omega (arith, h)) w.1 s e

right-at-exit : (e : LexExit) (f g : LexState → Track) → ((s : LexState) → e ≡ LexExit.state s → f s ≡ g s) → right_of e f ≡ right_of e g
right-at-exit (LexExit.state s) f g h = h s refl
right-at-exit (LexExit.fault at) f g h = refl

-- what follows is asked only at the exit
joined-at-exit : (t : Track) (f g : LexState → Track) → ((s : LexState) → t.exit ≡ LexExit.state s → f s ≡ g s) → joined t f ≡ joined t g
joined-at-exit t f g h = ap (λ (r : Track). record { marks = t.marks ++ r.marks; ends = t.ends ++ r.ends; exit = r.exit }) (right-at-exit t.exit f g h)

pub shared-join : (held : List LexState) (u w : List ℕ) → shared_from held (u ++ w) ≡ shared_from held u + shared_from (after held u) w
unfolding shared_from
shared-join held [] w = omega arith
shared-join held (b ∷ u) w = let e = shared-join (held_after b held) u w in omega (arith, e)

pub after-join : (held : List LexState) (u w : List ℕ) → after held (u ++ w) ≡ after (after held u) w
after-join held [] w = refl
after-join held (b ∷ u) w = after-join (held_after b held) u w

pub Reads-joined : (at from : ℕ) (u w : List ℕ) (live : List Bool) (l r : Bundle) → from ≡ at + length u
    → IsBundleOf at u live l → Stands u live l → IsBundleOf from w l.live r → IsBundleOf at (u ++ w) live (joined_bundle l r)
Reads-joined at from u w live l r here rl sl rr =
    record {
      all = length-map l.heads (linked r.heads (length l.segments)) ∙ rl.all;
      heads = λ s. rw (head-map (linked r.heads (length l.segments)) l.heads s rl.all) (subst (λ n. IsIn n (linked r.heads (length l.segments) (head l.heads s)))
          (sym (length-append (linked_segments r.heads l.segments) r.segments ∙ ap (λ n. n + length r.segments) (length-linked r.heads l.segments)))
          (IsIn-linked r.heads (length l.segments) (length r.segments) (head l.heads s) rr.heads (rl.heads s)));
      segments = AreIn-linked r.heads l.segments r.segments rr.heads rl.segments rr.segments;
      tracks = λ s live_s.
          ap (follow (linked_segments r.heads l.segments ++ r.segments)) (head-map (linked r.heads (length l.segments)) l.heads s rl.all)
          ∙ follow-linked r.heads r.segments l.segments (head l.heads s) (rl.heads s) rl.segments
          ∙ joined-at-exit (follow l.segments (head l.heads s)) (λ t. follow r.segments (head r.heads t)) (λ t. lex t from w)
          (λ t e. rr.tracks t (exit-live l.live l.segments (head l.heads s) (sl.heads s) sl.segments (rl.heads s) rl.segments t e))
          ∙ ap (λ t. joined t (λ x. lex x from w)) (rl.tracks s live_s)
          ∙ ap (λ n. joined (lex s at u) (λ x. lex x n w)) here
          ∙ sym (lex-append u w s at);
      counted = λ held h.
          let a = stored-append (linked_segments r.heads l.segments) r.segments in
          let b = stored-linked r.heads l.segments in
          let c = rl.counted held h in
          let d = rr.counted (after held u) (sl.held held h) in
          let e = shared-join held u w in
          omega (arith, a, b, c, d, e);
      placed =
          let n = length-append u w in
          ArePlaced-append at (at + length (u ++ w)) (linked_segments r.heads l.segments) r.segments
          (ArePlaced-linked r.heads at (at + length (u ++ w)) l.segments (ArePlaced-wider at (at + length u) at (at + length (u ++ w)) l.segments (omega arith) (omega (arith, n)) rl.placed))
          (ArePlaced-wider from (from + length w) at (at + length (u ++ w)) r.segments (omega (arith, here)) (omega (arith, here, n)) rr.placed);
    }

LiveAt-shifted : (live : List Bool) (n : ℕ) (g : Link) → LiveAt live g → LiveAt live (shifted n g)
LiveAt-shifted live n (Ahead k) h = tt
LiveAt-shifted live n (State s) h = h
LiveAt-shifted live n (Fault at) h = tt

LiveAt-linked : (live : List Bool) (heads : List Link) (n : ℕ) (g : Link) → ((s : LexState) → LiveAt live (head heads s)) → LiveAt live (linked heads n g)
LiveAt-linked live heads n (Ahead k) all = tt
LiveAt-linked live heads n (State s) all = LiveAt-shifted live n (head heads s) (all s)
LiveAt-linked live heads n (Fault at) all = tt

AllLive-joined : (live : List Bool) (heads : List Link) (ps qs : List SegmentValue) → ((s : LexState) → LiveAt live (head heads s)) → AllLive live qs
    → AllLive live (linked_segments heads ps ++ qs)
AllLive-joined live heads [] qs all h = h
AllLive-joined live heads (p ∷ ps) qs all h = (LiveAt-linked live heads (length ps) p.next all, AllLive-joined live heads ps qs all h)

pub Stands-joined : (u w : List ℕ) (live : List Bool) (l r : Bundle) → length l.heads ≡ 32
    → Stands u live l → Stands w l.live r → Stands (u ++ w) live (joined_bundle l r)
Stands-joined u w live l r all sl sr =
    record {
      all = sr.all;
      heads = λ s. subst (LiveAt r.live) (sym (head-map (linked r.heads (length l.segments)) l.heads s all)) (LiveAt-linked r.live r.heads (length l.segments) (head l.heads s) sr.heads);
      segments = AllLive-joined r.live r.heads l.segments r.segments sr.heads sr.segments;
      held = λ held h s e. subst (λ hs. has s hs ≡ true) (sym (after-join held u w)) (sr.held (after held u) (sl.held held h) s e);
    }
