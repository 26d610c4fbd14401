-- Many segments side by side: the states in which they stand.
use Rattle.std.proofs.Common.{◌≡◌, ◌≢◌, ℕ, ◌+◌, ◌<◌, ◌≤◌, List, [], ◌∷◌, ◌++◌, length, map, get_or, set, take, drop, refl, ap, sym, subst, ◌∙◌, arith, append-nil, Bool, true, false, cond, ◌==◌, replicate}
use Rattle.std.proofs.lemmas.List.{get_or-replicate, take_more, length-replicate, take_all, drop_all}
use Rattle.std.specs.Prelude.{slice_range}
use Rattle.std.proofs.Common.{length-set}
use Rattle.jx_lex.specs.declared.alphabet.state.LexState.{LexState}
use Rattle.jx_maps.specs.declared.link.Link.{Link}
use Rattle.jx_maps.specs.declared.link.Link.TheVariants.{Ahead, State, Fault}
use Rattle.jx_lex.specs.Ordinal.{ordinal}
use Rattle.jx_maps.specs.Follow.{SegmentValue, head}
use Rattle.jx_maps.specs.inside.Closed.{IsClosed}
use Rattle.jx_maps.specs.inside.Bundle.{Bundle, is_live, LiveAt, IsBundleOf, Stands, ReadsOn, StandIn, joined_bundle}
use Rattle.jx_maps.specs.inside.Passing.{KeptBy, AllKept}
use Rattle.jx_maps.specs.Shared.{has, after, HeldAt, AllHeld}
use Rattle.jx_maps.specs.inside.Step.{read_segment, held_by, state_is}
use Rattle.jx_maps.proofs.Building.{live-set, live-new, AllLive-more, AllLive-append}
use Rattle.jx_maps.proofs.Bundles.{Reads-joined, Stands-joined}
use Rattle.jx_maps.proofs.Counting.{held_by-cons}
use Rattle.jx_lex.proofs.StateOrder.{ordinal-low, same_ordinal}
use Rattle.jx_maps.proofs.ReadingOn.{Reads-on, AllHeld-live, reads-byte, few-single, reads-slices, reads-kept}
use Rattle.jx_lex.proofs.Slices.{slice-none, slice-more, slice-first}
use Rattle.std.specs.Prelude.{Some}

not_itself : (s : LexState) (c : Bool) → (ordinal s == ordinal s) ≡ c → c ≡ true
not_itself s true e = refl
not_itself s false e = let h : ordinal s ≢ ordinal s = grind (arith, e) in absurd (h refl)

-- ---- one segment more

pub take-next : (ps : List SegmentValue) (i : ℕ) (p : SegmentValue) → i < length ps → p ≡ get_or ps i p → take (i + 1) ps ≡ take i ps ++ p ∷ []
take-next ps i p low is = take_more ps i p low ∙ ap (λ q. take i ps ++ q ∷ []) (sym is)

pub held_by-more : (s : LexState) (ps : List SegmentValue) (p : SegmentValue) → held_by s (ps ++ p ∷ []) ≡ held_by s ps + cond (state_is s p.next) 1 0
held_by-more s [] p = let a = held_by-cons s p [] in omega (arith, a)
held_by-more s (q ∷ ps) p =
    let a = held_by-cons s q (ps ++ p ∷ []) in
    let b = held_by-cons s q ps in
    let c = held_by-more s ps p in
    omega (arith, a, b, c)

AllHeld-left : (held : List LexState) (ps qs : List SegmentValue) → AllHeld held (ps ++ qs) → AllHeld held ps
AllHeld-left held [] qs h = tt
AllHeld-left held (p ∷ ps) qs h = (h.0, AllHeld-left held ps qs h.1)

AllHeld-last : (held : List LexState) (ps : List SegmentValue) (p : SegmentValue) → AllHeld held (ps ++ p ∷ []) → HeldAt held p.next
AllHeld-last held [] p h = h.0
AllHeld-last held (q ∷ ps) p h = AllHeld-last held ps p h.1

pub AllKept-more : (w : List ℕ) (ps : List SegmentValue) (p : SegmentValue) → AllKept w ps → KeptBy p.next w → AllKept w (ps ++ p ∷ [])
AllKept-more w [] p h k = (k, tt)
AllKept-more w (q ∷ ps) p h k = (h.0, AllKept-more w ps p h.1 k)

pub AllKept-none : (ps : List SegmentValue) → AllKept [] ps
AllKept-none [] = tt
AllKept-none (p ∷ ps) = (kept-none p.next, AllKept-none ps)
  where
    kept-none : (g : Link) → KeptBy g []
    kept-none (State s) = tt
    kept-none (Ahead k) = tt
    kept-none (Fault at) = tt

-- ---- the states that were seen, each once

pub record Apart (seen : List Bool) (ps : List SegmentValue) : Type 0 where
  pub all : length seen ≡ 32
  pub once : (s : LexState) → held_by s ps ≡ cond (is_live seen s) 1 0

none_live : (s : LexState) → is_live (replicate 32 false) s ≡ false
none_live s = get_or-replicate 32 (ordinal s) false false (ordinal-low s)

pub Apart-none : Apart (replicate 32 false) []
Apart-none = record { all = length-replicate 32 false; once = λ s. ap (λ (b : Bool). cond b 1 0) (sym (none_live s)) }

pub Apart-state : (seen : List Bool) (ps : List SegmentValue) (p : SegmentValue) (t : LexState) → Apart seen ps → p.next ≡ State t → is_live seen t ≡ false
    → Apart (set seen (ordinal t) true) (ps ++ p ∷ [])
Apart-state seen ps p t h stands new =
    record {
      all = length-set seen (ordinal t) true ∙ h.all;
      once = λ s. live-set (λ b. held_by s (ps ++ p ∷ []) ≡ cond b 1 0) seen t s h.all (λ e. same s e) (λ n. other s n);
    }
  where
    step : (s : LexState) → held_by s (ps ++ p ∷ []) ≡ held_by s ps + cond (ordinal t == ordinal s) 1 0
    step s = held_by-more s ps p ∙ ap (λ (g : Link). held_by s ps + cond (state_is s g) 1 0) stands

    same : (s : LexState) → s ≡ t → held_by s (ps ++ p ∷ []) ≡ 1
    same s e =
        let a = subst (λ x. held_by x (ps ++ p ∷ []) ≡ held_by x ps + cond (ordinal t == ordinal x) 1 0) (sym e) (step t) in
        let b : held_by t ps ≡ 0 = h.once t ∙ ap (λ (b : Bool). cond b 1 0) new in
        let c : cond {A = ℕ} (ordinal t == ordinal t) 1 0 ≡ 1 = ap (λ (b : Bool). cond b 1 0) (not_itself t (ordinal t == ordinal t) refl) in
        let d : held_by t (ps ++ p ∷ []) ≡ 1 = let x = step t in omega (arith, x, b, c) in
        subst (λ x. held_by x (ps ++ p ∷ []) ≡ 1) (sym e) d

    other : (s : LexState) → ordinal s ≢ ordinal t → held_by s (ps ++ p ∷ []) ≡ cond (is_live seen s) 1 0
    other s n =
        let c : cond {A = ℕ} (ordinal t == ordinal s) 1 0 ≡ 0 = ap (λ (b : Bool). cond b 1 0) (differ (ordinal t == ordinal s) refl) in
        let x = step s in
        let y = h.once s in
        omega (arith, x, y, c)
      where
        differ : (c : Bool) → (ordinal t == ordinal s) ≡ c → c ≡ false
        differ false e = refl
        differ true e = let m : ordinal s ≡ ordinal t = grind (arith, e) in absurd (n m)

pub Apart-out : (seen : List Bool) (ps : List SegmentValue) (p : SegmentValue) → Apart seen ps → ((s : LexState) → p.next ≡ State s → ⊥) → Apart seen (ps ++ p ∷ [])
Apart-out seen ps p h out =
    record {
      all = h.all;
      once = λ s. let x = held_by-more s ps p in let y = h.once s in let z = zero_at s p.next (out s) in omega (arith, x, y, z);
    }
  where
    zero_at : (s : LexState) (g : Link) → (g ≡ State s → ⊥) → cond {A = ℕ} (state_is s g) 1 0 ≡ 0
    zero_at s (State t) n = ap (λ (b : Bool). cond {A = ℕ} b 1 0) (differ (ordinal t == ordinal s) refl)
      where
        differ : (c : Bool) → (ordinal t == ordinal s) ≡ c → c ≡ false
        differ false e = refl
        differ true e = let m : ordinal t ≡ ordinal s = grind (arith, e) in absurd (n (ap State (same_ordinal t s m)))
    zero_at s (Ahead k) n = refl
    zero_at s (Fault at) n = refl

pub Apart-single : (seen : List Bool) (ps : List SegmentValue) → Apart seen ps → (s : LexState) → held_by s ps ≤ 1
Apart-single seen ps h s = go (is_live seen s) (h.once s)
  where
    go : (b : Bool) → held_by s ps ≡ cond b 1 0 → held_by s ps ≤ 1
    go true e = omega (arith, e)
    go false e = omega (arith, e)

-- ---- the states in which segments stand

pub StandIn-none : StandIn (replicate 32 false) []
StandIn-none = record { all = length-replicate 32 false; stand = tt; held = λ held h s l. let e = none_live s in absurd cc }

pub StandIn-state : (live : List Bool) (ps : List SegmentValue) (p : SegmentValue) (t : LexState) → StandIn live ps → p.next ≡ State t → StandIn (set live (ordinal t) true) (ps ++ p ∷ [])
StandIn-state live ps p t h stands =
    record {
      all = length-set live (ordinal t) true ∙ h.all;
      stand = AllLive-append (set live (ordinal t) true) ps (p ∷ []) (AllLive-more (Some t) live ps h.all h.stand)
          (subst (LiveAt (set live (ordinal t) true)) (sym stands) (live-new t live h.all), tt);
      held = λ held k s. live-set (λ b. b ≡ true → has s held ≡ true) live t s h.all
          (λ e x. subst (λ u. has u held ≡ true) (sym e) (subst (HeldAt held) stands (AllHeld-last held ps p k)))
          (λ n x. h.held held (AllHeld-left held ps (p ∷ []) k) s x);
    }

pub StandIn-out : (live : List Bool) (ps : List SegmentValue) (p : SegmentValue) → StandIn live ps → ((s : LexState) → p.next ≡ State s → ⊥) → StandIn live (ps ++ p ∷ [])
StandIn-out live ps p h out =
    record {
      all = h.all;
      stand = AllLive-append live ps (p ∷ []) h.stand (at p.next out, tt);
      held = λ held k. h.held held (AllHeld-left held ps (p ∷ []) k);
    }
  where
    at : (g : Link) → ((s : LexState) → g ≡ State s → ⊥) → LiveAt live g
    at (State s) n = absurd (n s refl)
    at (Ahead k) n = tt
    at (Fault f) n = tt

-- ---- open tracks that were read on

pub Reads-open_on : (at : ℕ) (w : List ℕ) (live now : List Bool) (o : Bundle) (new : List SegmentValue) → IsBundleOf at [] live o → Stands [] live o
    → ((s : LexState) → IsClosed (head o.heads s)) → ReadsOn at w o.segments new → IsBundleOf at w live (record { heads = o.heads; segments = new; live = now })
Reads-open_on at w live now o new r st closed on =
    let b = Reads-on at w live o new r st closed on in
    record { all = b.all; heads = b.heads; segments = b.segments; tracks = b.tracks; counted = b.counted; placed = b.placed }

pub Stands-open_on : (at : ℕ) (w : List ℕ) (live now : List Bool) (o : Bundle) (new : List SegmentValue) → Stands [] live o
    → ((s : LexState) → IsClosed (head o.heads s)) → ReadsOn at w o.segments new → StandIn now new → Stands w live (record { heads = o.heads; segments = new; live = now })
Stands-open_on at w live now o new st closed on l =
    record {
      all = l.all;
      heads = λ s. go (head o.heads s) (closed s);
      segments = l.stand;
      held = λ held h. l.held (after held w) (on.held held (AllHeld-live o.live held o.segments (st.held held h) st.segments));
    }
  where
    go : (g : Link) → IsClosed g → LiveAt now g
    go (State s) c = absurd c
    go (Ahead k) c = tt
    go (Fault f) c = tt

-- a slice was written back to where it came from
pub written : (xs ys : List SegmentValue) (n : ℕ) → length xs ≡ n → length ys ≡ n → take n (xs ++ drop (length xs) ys) ≡ xs
written xs ys n e f =
    let g : length ys ≤ length xs = omega (arith, e, f) in
    let h : length xs ≤ n = omega (arith, e) in
    ap (λ zs. take n (xs ++ zs)) (drop_all (length xs) ys g) ∙ ap (take n) (append-nil xs) ∙ take_all n xs h

-- one byte, and then the open tracks on their own
pub some-read : (xs : List ℕ) (at j : ℕ) (live now : List Bool) (l o b : Bundle) (new : List SegmentValue) → at < j → j ≤ length xs
    → IsBundleOf at (get_or xs at 0 ∷ []) live l → Stands (get_or xs at 0 ∷ []) live l
    → ((k : ℕ) → IsBundleOf k [] l.live o) → Stands [] l.live o → ((s : LexState) → IsClosed (head o.heads s))
    → ReadsOn (at + 1) (slice_range xs (at + 1) j) o.segments new → StandIn now new
    → b ≡ joined_bundle l (record { heads = o.heads; segments = new; live = now })
    → IsBundleOf at (slice_range xs at j) live b × Stands (slice_range xs at j) live b
some-read xs at j live now l o b new low high rl sl ro so closed on stand same =
    let w = slice_range xs (at + 1) j in
    let r : Bundle = record { heads = o.heads; segments = new; live = now } in
    let here : at + 1 ≡ at + length (get_or xs at 0 ∷ []) = omega arith in
    let cut : slice_range xs at j ≡ (get_or xs at 0 ∷ []) ++ w = slice-first xs at j 0 low high in
    let rr = Reads-open_on (at + 1) w l.live now o new (ro (at + 1)) so closed on in
    let sr = Stands-open_on (at + 1) w l.live now o new so closed on stand in (
      rw (cut, same) (Reads-joined at (at + 1) (get_or xs at 0 ∷ []) w live l r here rl sl rr),
      rw (cut, same) (Stands-joined (get_or xs at 0 ∷ []) w live l r rl.all sl sr),
    )

-- one byte for all of them, and then a stretch that changes none
pub apart-step : (xs : List ℕ) (from i j : ℕ) (ps qs rs : List SegmentValue) → from ≤ i → i < length xs → i + 1 ≤ j → j ≤ length xs
    → ReadsOn from (slice_range xs from i) ps qs → ((s : LexState) → held_by s qs ≤ 1) → rs ≡ map (read_segment i (get_or xs i 0)) qs → AllKept (slice_range xs (i + 1) j) rs
    → ReadsOn from (slice_range xs from j) ps rs
apart-step xs from i j ps qs rs low here more fits before apart same kept =
    let b = get_or xs i 0 in
    let one : slice_range xs i (i + 1) ≡ b ∷ [] = slice-more xs i i 0 (omega arith) here ∙ ap (λ ys. ys ++ b ∷ []) (slice-none xs i) in
    let byte : ReadsOn i (slice_range xs i (i + 1)) qs rs = rw (one, same) (reads-byte i b qs (few-single b qs apart)) in
    reads-slices xs from i j ps qs rs low (omega (arith, more)) fits before
    (reads-slices xs i (i + 1) j qs rs rs (omega arith) more fits byte (reads-kept (i + 1) (slice_range xs (i + 1) j) rs kept))
