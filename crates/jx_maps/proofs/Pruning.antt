-- What the tracks from the left reach stays as it is where the rest is emptied.
use Rattle.std.proofs.Common.{◌≡◌, ℕ, zero, suc, ◌+◌, ◌-◌, ◌<◌, ◌≤◌, List, [], ◌∷◌, ◌++◌, length, get_or, set, take, drop, refl, ap, sym, subst, ◌∙◌, arith, append-nil, append_assoc, ◌==◌, ◌≢◌, Bool, true, false, length-set, Some}
use Rattle.std.proofs.lemmas.List.{get_or-set_same, get_or_default, take_all, drop_all}
use Rattle.jx_lex.specs.declared.alphabet.state.LexState.{LexState}
use Rattle.jx_maps.specs.declared.link.Link.{Link}
use Rattle.jx_maps.specs.declared.link.Link.TheVariants.{Ahead, State, Fault}
use Rattle.jx_lex.specs.declared.alphabet.state.LexState.TheVariants as state
use Rattle.jx_lex.specs.Ordinal.{ordinal, all_states}
use Rattle.jx_maps.specs.Follow.{SegmentValue, behind, follow, head, IsIn, AreIn}
use Rattle.jx_lex.specs.Lex.{Track, LexExit}
use Rattle.jx_maps.specs.inside.Closed.{IsClosed, ClosedTo, AreClosed}
use Rattle.jx_maps.specs.inside.Bundle.{LiveAt, AllLive, is_live}
use Rattle.jx_maps.specs.Map.{Map, IsLinked, joined_map, stored, track}
use Rattle.jx_maps.specs.inside.Pruned.{IsReached, with_reached, emptied, pruned, with_exit_of}
use Rattle.jx_lex.proofs.StateOrder.{ordinal-at}
use Rattle.jx_maps.proofs.Building.{AllLive-append, AllLive-more, LiveAt-more, live-new}
use Rattle.jx_maps.proofs.Joined.{track-joined}
use Rattle.jx_lex.specs.TwoPieces.{joined, right_of}
use Rattle.jx_maps.proofs.SideBySide.{take-next}

-- ---- what is reached

set-keeps : (rs : List Bool) (j k : ℕ) → get_or rs k false ≡ true → get_or (set rs j true) k false ≡ true
set-keeps [] j k h = h
set-keeps (r ∷ rs) zero zero h = refl
set-keeps (r ∷ rs) zero (suc k) h = h
set-keeps (r ∷ rs) (suc j) zero h = h
set-keeps (r ∷ rs) (suc j) (suc k) h = set-keeps rs j k h

reached-more : (g : Link) (rs : List Bool) (k : ℕ) → get_or rs k false ≡ true → get_or (with_reached g rs) k false ≡ true
reached-more (Ahead j) rs k h = set-keeps rs j k h
reached-more (State s) rs k h = h
reached-more (Fault at) rs k h = h

pub IsReached-set : (rs : List Bool) (j : ℕ) (g : Link) → IsReached rs g → IsReached (set rs j true) g
IsReached-set rs j (Ahead k) h = set-keeps rs j k h
IsReached-set rs j (State s) h = tt
IsReached-set rs j (Fault at) h = tt

reached-itself : (g : Link) (rs : List Bool) → IsIn (length rs) g → IsReached (with_reached g rs) g
reached-itself (Ahead k) rs h = get_or-set_same rs k true false h
reached-itself (State s) rs h = tt
reached-itself (Fault at) rs h = tt

length-reached : (g : Link) (rs : List Bool) → length (with_reached g rs) ≡ length rs
length-reached (Ahead k) rs = length-set rs k true
length-reached (State s) rs = refl
length-reached (Fault at) rs = refl

-- ---- tracks that are reached

pub follow-pruned : (rs : List Bool) (ps : List SegmentValue) (g : Link) → length rs ≡ length ps → IsIn (length ps) g → AreIn ps → IsReached rs g → follow (pruned rs ps) g ≡ follow ps g
unfolding follow
follow-pruned rs ps (State s) e h w r = refl
follow-pruned rs ps (Fault at) e h w r = refl
follow-pruned rs [] (Ahead k) e h w r = absurd (omega (arith, h))
follow-pruned [] (p ∷ ps) (Ahead k) e h w r = absurd (omega (arith, e))
follow-pruned (true ∷ rs) (p ∷ ps) (Ahead zero) e h w r =
    let l : length rs ≡ length ps = omega (arith, e) in
    ap (behind p) (follow-pruned (with_reached p.next rs) ps p.next (length-reached p.next rs ∙ l) w.0 w.1
    (reached-itself p.next rs (subst (λ n. IsIn n p.next) (sym l) w.0)))
follow-pruned (false ∷ rs) (p ∷ ps) (Ahead zero) e h w r = absurd cc
follow-pruned (true ∷ rs) (p ∷ ps) (Ahead (suc k)) e h w r =
    let l : length rs ≡ length ps = omega (arith, e) in
    follow-pruned (with_reached p.next rs) ps (Ahead k) (length-reached p.next rs ∙ l) (omega (arith, h)) w.1 (reached-more p.next rs k r)
follow-pruned (false ∷ rs) (p ∷ ps) (Ahead (suc k)) e h w r = follow-pruned rs ps (Ahead k) (omega (arith, e)) (omega (arith, h)) w.1 r

pub length-pruned : (rs : List Bool) (ps : List SegmentValue) → length (pruned rs ps) ≡ length ps
length-pruned rs [] = refl
length-pruned [] (p ∷ ps) = ap suc (length-pruned [] ps)
length-pruned (true ∷ rs) (p ∷ ps) = ap suc (length-pruned (with_reached p.next rs) ps)
length-pruned (false ∷ rs) (p ∷ ps) = ap suc (length-pruned rs ps)

AreIn-pruned : (rs : List Bool) (ps : List SegmentValue) → AreIn ps → AreIn (pruned rs ps)
AreIn-pruned rs [] w = tt
AreIn-pruned [] (p ∷ ps) w = (subst (λ n. IsIn n p.next) (sym (length-pruned [] ps)) w.0, AreIn-pruned [] ps w.1)
AreIn-pruned (true ∷ rs) (p ∷ ps) w = (subst (λ n. IsIn n p.next) (sym (length-pruned (with_reached p.next rs) ps)) w.0, AreIn-pruned (with_reached p.next rs) ps w.1)
AreIn-pruned (false ∷ rs) (p ∷ ps) w = (subst (λ n. IsIn n p.next) (sym (length-pruned rs ps)) w.0, AreIn-pruned rs ps w.1)

ClosedTo-pruned : (k : ℕ) (rs : List Bool) (ps : List SegmentValue) → ClosedTo k ps → ClosedTo k (pruned rs ps)
ClosedTo-pruned zero rs ps h = tt
ClosedTo-pruned (suc k) rs [] h = tt
ClosedTo-pruned (suc k) [] (p ∷ ps) h = (h.0, ClosedTo-pruned k [] ps h.1)
ClosedTo-pruned (suc k) (true ∷ rs) (p ∷ ps) h = (h.0, ClosedTo-pruned k (with_reached p.next rs) ps h.1)
ClosedTo-pruned (suc k) (false ∷ rs) (p ∷ ps) h = (h.0, ClosedTo-pruned k rs ps h.1)

pub stored-pruned : (rs : List Bool) (ps : List SegmentValue) → stored (pruned rs ps) ≤ stored ps
stored-pruned rs [] = omega arith
stored-pruned [] (p ∷ ps) = let a = stored-pruned [] ps in omega (arith, a)
stored-pruned (true ∷ rs) (p ∷ ps) = let a = stored-pruned (with_reached p.next rs) ps in omega (arith, a)
stored-pruned (false ∷ rs) (p ∷ ps) = let a = stored-pruned rs ps in omega (arith, a)

-- ---- maps

abbrev pub pruned_map : List Bool → Map → Map
pruned_map rs m = record m { segments = pruned rs m.segments }

pub IsWhole-pruned : (rs : List Bool) (m : Map) → IsLinked m → IsLinked (pruned_map rs m)
IsWhole-pruned rs m w =
    record {
      all = w.all;
      heads = λ s. subst (λ n. IsIn n (head m.heads s)) (sym (length-pruned rs m.segments)) (w.heads s);
      segments = AreIn-pruned rs m.segments w.segments;
    }

pub AreClosed-pruned : (k : ℕ) (rs : List Bool) (heads : List Link) (ps : List SegmentValue) → AreClosed k heads ps → AreClosed k heads (pruned rs ps)
AreClosed-pruned k rs heads ps h =
    record {
      within = let a = h.within in let b = length-pruned rs ps in omega (arith, a, b);
      all = h.all;
      segments = ClosedTo-pruned k rs ps h.segments;
    }

-- a track that leads out does so in one of the states that were noted
exit-live : (live : List Bool) (ps : List SegmentValue) (g : Link) → LiveAt live g → AllLive live ps → (s : LexState) → (follow ps g).exit ≡ LexExit.state s → is_live live s ≡ true
unfolding follow
exit-live live ps (State t) l a s e = let same : t ≡ s = cc in subst (λ u. is_live live u ≡ true) same l
exit-live live ps (Fault at) l a s e = absurd cc
exit-live live [] (Ahead k) l a s e = absurd cc
exit-live live (p ∷ ps) (Ahead zero) l a s e = exit-live live ps p.next a.0 a.1 s e
exit-live live (p ∷ ps) (Ahead (suc k)) l a s e = exit-live live ps (Ahead k) tt a.1 s e

right-where : (e : LexExit) (f g : LexState → Track) → ((s : LexState) → e ≡ LexExit.state s → f s ≡ g s) → right_of e f ≡ right_of e g
right-where (LexExit.state s) f g h = h s refl
right-where (LexExit.fault at) f g h = refl

-- what follows is asked only in the state of the exit
joined-where : (t : Track) (f g : LexState → Track) → ((s : LexState) → t.exit ≡ LexExit.state s → f s ≡ g s) → joined t f ≡ joined t g
joined-where t f g h = ap (λ (r : Track). record { marks = t.marks ++ r.marks; ends = t.ends ++ r.ends; exit = r.exit }) (right-where t.exit f g h)

pub track-pruned : (l r : Map) (rs live : List Bool) → IsLinked l → IsLinked r → length rs ≡ length r.segments
    → ((s : LexState) → LiveAt live (head l.heads s)) → AllLive live l.segments
    → ((s : LexState) → is_live live s ≡ true → IsReached rs (head r.heads s))
    → (s : LexState) → track (joined_map l (pruned_map rs r)) s ≡ track (joined_map l r) s
track-pruned l r rs live wl wr long heads segments reached s =
    track-joined l (pruned_map rs r) s wl
    ∙ joined-where (track l s) (track (pruned_map rs r)) (track r)
    (λ u e. follow-pruned rs r.segments (head r.heads u) long (wr.heads u) wr.segments (reached u (exit-live live l.segments (head l.heads s) (heads s) segments u e)))
    ∙ sym (track-joined l r s wl)

-- ---- states that are noted

pub noted-here : (g : Link) (live : List Bool) → length live ≡ 32 → LiveAt (with_exit_of g live) g
noted-here (State s) live all = live-new s live all
noted-here (Ahead k) live all = tt
noted-here (Fault at) live all = tt

pub noted-more : (g h : Link) (live : List Bool) → length live ≡ 32 → LiveAt live h → LiveAt (with_exit_of g live) h
noted-more (State s) h live all l = LiveAt-more (Some s) live h all l
noted-more (Ahead k) h live all l = l
noted-more (Fault at) h live all l = l

pub noted-segments : (g : Link) (ps : List SegmentValue) (live : List Bool) → length live ≡ 32 → AllLive live ps → AllLive (with_exit_of g live) ps
noted-segments (State s) ps live all l = AllLive-more (Some s) live ps all l
noted-segments (Ahead k) ps live all l = l
noted-segments (Fault at) ps live all l = l

pub closed-live : (k : ℕ) (live : List Bool) (ps : List SegmentValue) → ClosedTo k ps → AllLive live (take k ps)
closed-live zero live ps h = tt
closed-live (suc k) live [] h = tt
closed-live (suc k) live (p ∷ ps) h = (at p.next h.0, closed-live k live ps h.1)
  where
    at : (g : Link) → IsClosed g → LiveAt live g
    at (State s) c = absurd c
    at (Ahead j) c = tt
    at (Fault f) c = tt

-- ---- one segment after another

pub AreIn-at : (ps : List SegmentValue) (i : ℕ) (d : SegmentValue) → AreIn ps → i < length ps → IsIn (length ps - (i + 1)) ((get_or ps i d).next)
AreIn-at [] i d w low = absurd (omega (arith, low))
AreIn-at (p ∷ ps) zero d w low = let e : suc (length ps) - (0 + 1) ≡ length ps = omega arith in subst (λ n. IsIn n p.next) (sym e) w.0
AreIn-at (p ∷ ps) (suc i) d w low =
    let e : suc (length ps) - (suc i + 1) ≡ length ps - (i + 1) = omega arith in
    subst (λ n. IsIn n ((get_or ps i d).next)) (sym e) (AreIn-at ps i d w.1 (omega (arith, low)))

drop-at : {A : Type 0} (xs : List A) (i : ℕ) (d : A) → i < length xs → drop i xs ≡ get_or xs i d ∷ drop (suc i) xs
drop-at [] i d low = absurd (omega (arith, low))
drop-at (x ∷ xs) zero d low = refl
drop-at (x ∷ xs) (suc i) d low = drop-at xs i d (omega (arith, low))

take-at : {A : Type 0} (xs : List A) (i : ℕ) (d : A) → i < length xs → take (suc i) xs ≡ take i xs ++ get_or xs i d ∷ []
take-at [] i d low = absurd (omega (arith, low))
take-at (x ∷ xs) zero d low = refl
take-at (x ∷ xs) (suc i) d low = ap (λ ys. x ∷ ys) (take-at xs i d (omega (arith, low)))

take-set : {A : Type 0} (xs : List A) (i : ℕ) (v : A) → i < length xs → take (suc i) (set xs i v) ≡ take i xs ++ v ∷ []
take-set [] i v low = absurd (omega (arith, low))
take-set (x ∷ xs) zero v low = refl
take-set (x ∷ xs) (suc i) v low = ap (λ ys. x ∷ ys) (take-set xs i v (omega (arith, low)))

drop-past : {A : Type 0} (xs : List A) (i : ℕ) (v : A) → drop (suc i) (set xs i v) ≡ drop (suc i) xs
drop-past [] i v = refl
drop-past (x ∷ xs) zero v = refl
drop-past (x ∷ xs) (suc i) v = drop-past xs i v

drop-set : (xs : List Bool) (n k : ℕ) (v : Bool) → drop n (set xs (n + k) v) ≡ set (drop n xs) k v
drop-set xs zero k v = let e : 0 + k ≡ k = omega arith in ap (λ m. set xs m v) e
drop-set [] (suc n) k v = refl
drop-set (x ∷ xs) (suc n) k v = let e : suc n + k ≡ suc (n + k) = omega arith in ap (λ m. drop (suc n) (set (x ∷ xs) m v)) e ∙ drop-set xs n k v

-- the flags after a segment that is reached
abbrev pub reached_behind : ℕ → Link → List Bool → List Bool
reached_behind i (Ahead k) rs = set rs (i + 1 + k) true
reached_behind i (State s) rs = rs
reached_behind i (Fault at) rs = rs

drop-behind : (rs : List Bool) (i : ℕ) (g : Link) → drop (suc i) (reached_behind i g rs) ≡ with_reached g (drop (suc i) rs)
drop-behind rs i (Ahead k) = let e : i + 1 + k ≡ suc i + k = omega arith in ap (λ m. drop (suc i) (set rs m true)) e ∙ drop-set rs (suc i) k true
drop-behind rs i (State s) = refl
drop-behind rs i (Fault at) = refl

-- what the loop keeps: the first i are done, and the rest is as it was
pub record Pruning (rs0 rs : List Bool) (ps0 ps : List SegmentValue) (i : ℕ) : Type 0 where
  pub flags : length rs ≡ length ps0
  pub many : length ps ≡ length ps0
  pub rest : drop i ps ≡ drop i ps0
  pub same : take i ps ++ pruned (drop i rs) (drop i ps0) ≡ pruned rs0 ps0

tails : {x y : SegmentValue} {xs ys : List SegmentValue} → x ∷ xs ≡ y ∷ ys → xs ≡ ys
tails e = cc

heads-same : {x y : SegmentValue} {xs ys : List SegmentValue} → x ∷ xs ≡ y ∷ ys → x ≡ y
heads-same e = cc

pub Pruning-kept : (rs0 rs : List Bool) (ps0 ps : List SegmentValue) (i : ℕ) (p : SegmentValue) → i < length ps0 → Pruning rs0 rs ps0 ps i → p ≡ get_or ps i p → get_or rs i false ≡ true
    → Pruning rs0 (reached_behind i p.next rs) ps0 ps (i + 1)
Pruning-kept rs0 rs ps0 ps i p low h is set_here =
    subst (λ n. Pruning rs0 (reached_behind i p.next rs) ps0 ps n) n (record {
      flags = behind_length p.next ∙ h.flags;
      many = h.many;
      rest = tails (sym cut ∙ h.rest ∙ cut0);
      same =
          ap (λ (xs : List SegmentValue). xs ++ pruned (drop (suc i) (reached_behind i p.next rs)) (drop (suc i) ps0)) (take-at ps i p here ∙ ap (λ (q : SegmentValue). take i ps ++ q ∷ []) (sym is))
          ∙ append_assoc (take i ps) (p ∷ []) (pruned (drop (suc i) (reached_behind i p.next rs)) (drop (suc i) ps0))
          ∙ ap (λ (fs : List Bool). take i ps ++ p ∷ pruned fs (drop (suc i) ps0)) (drop-behind rs i p.next)
          ∙ ap (λ (fs : List Bool). take i ps ++ pruned fs (p ∷ drop (suc i) ps0)) (sym flag)
          ∙ ap (λ (xs : List SegmentValue). take i ps ++ pruned (drop i rs) xs) (sym first)
          ∙ h.same;
    })
  where
    n : suc i ≡ i + 1
    n = omega arith

    here : i < length ps
    here = let m = h.many in omega (arith, m, low)

    cut : drop i ps ≡ get_or ps i p ∷ drop (suc i) ps
    cut = drop-at ps i p here

    cut0 : drop i ps0 ≡ get_or ps0 i p ∷ drop (suc i) ps0
    cut0 = drop-at ps0 i p low

    first : drop i ps0 ≡ p ∷ drop (suc i) ps0
    first = cut0 ∙ ap (λ (q : SegmentValue). q ∷ drop (suc i) ps0) (sym (heads-same (sym cut ∙ h.rest ∙ cut0)) ∙ sym is)

    flag : drop i rs ≡ true ∷ drop (suc i) rs
    flag = let m = h.flags in drop-at rs i false (omega (arith, m, low)) ∙ ap (λ (b : Bool). b ∷ drop (suc i) rs) set_here

    behind_length : (g : Link) → length (reached_behind i g rs) ≡ length rs
    behind_length (Ahead k) = length-set rs (i + 1 + k) true
    behind_length (State s) = refl
    behind_length (Fault at) = refl

pub Pruning-emptied : (rs0 rs : List Bool) (ps0 ps : List SegmentValue) (i : ℕ) (p q : SegmentValue) → i < length ps0 → Pruning rs0 rs ps0 ps i → p ≡ get_or ps i p → get_or rs i false ≡ false
    → q ≡ emptied p → Pruning rs0 rs ps0 (set ps i q) (i + 1)
Pruning-emptied rs0 rs ps0 ps i p q low h is clear_here e =
    subst (λ n. Pruning rs0 rs ps0 (set ps i q) n) n (record {
      flags = h.flags;
      many = length-set ps i q ∙ h.many;
      rest = drop-past ps i q ∙ tails (sym cut ∙ h.rest ∙ cut0);
      same =
          ap (λ (xs : List SegmentValue). xs ++ pruned (drop (suc i) rs) (drop (suc i) ps0)) (take-set ps i q here ∙ ap (λ (x : SegmentValue). take i ps ++ x ∷ []) e)
          ∙ append_assoc (take i ps) (emptied p ∷ []) (pruned (drop (suc i) rs) (drop (suc i) ps0))
          ∙ ap (λ (fs : List Bool). take i ps ++ pruned fs (p ∷ drop (suc i) ps0)) (sym flag)
          ∙ ap (λ (xs : List SegmentValue). take i ps ++ pruned (drop i rs) xs) (sym first)
          ∙ h.same;
    })
  where
    n : suc i ≡ i + 1
    n = omega arith

    here : i < length ps
    here = let m = h.many in omega (arith, m, low)

    cut : drop i ps ≡ get_or ps i p ∷ drop (suc i) ps
    cut = drop-at ps i p here

    cut0 : drop i ps0 ≡ get_or ps0 i p ∷ drop (suc i) ps0
    cut0 = drop-at ps0 i p low

    first : drop i ps0 ≡ p ∷ drop (suc i) ps0
    first = cut0 ∙ ap (λ (q : SegmentValue). q ∷ drop (suc i) ps0) (sym (heads-same (sym cut ∙ h.rest ∙ cut0)) ∙ sym is)

    flag : drop i rs ≡ false ∷ drop (suc i) rs
    flag = let m = h.flags in drop-at rs i false (omega (arith, m, low)) ∙ ap (λ (b : Bool). b ∷ drop (suc i) rs) clear_here

pub Pruning-start : (rs : List Bool) (ps : List SegmentValue) → length rs ≡ length ps → Pruning rs rs ps ps 0
Pruning-start rs ps e = record { flags = e; many = refl; rest = refl; same = refl }

pub Pruning-done : (rs0 rs : List Bool) (ps0 ps : List SegmentValue) (i : ℕ) → length ps0 ≤ i → Pruning rs0 rs ps0 ps i → ps ≡ pruned rs0 ps0
Pruning-done rs0 rs ps0 ps i le h =
    let m = h.many in
    let short : length ps ≤ i = omega (arith, m, le) in
    sym (take_all i ps short)
    ∙ sym (append-nil (take i ps))
    ∙ ap (λ (xs : List SegmentValue). take i ps ++ pruned (drop i rs) xs) (sym (drop_all i ps0 le))
    ∙ h.same

-- the link of the next segment stays within
pub Pruning-in : (rs0 rs : List Bool) (ps0 ps : List SegmentValue) (i : ℕ) (p : SegmentValue) → AreIn ps0 → i < length ps0 → Pruning rs0 rs ps0 ps i → p ≡ get_or ps i p → IsIn (length ps0 - (i + 1)) p.next
Pruning-in rs0 rs ps0 ps i p w low h is =
    let m = h.many in
    let here : i < length ps = omega (arith, m, low) in
    let same : get_or ps i p ≡ get_or ps0 i p = heads-same (sym (drop-at ps i p here) ∙ h.rest ∙ drop-at ps0 i p low) in
    subst (λ (q : SegmentValue). IsIn (length ps0 - (i + 1)) q.next) (sym same ∙ sym is) (AreIn-at ps0 i p w low)

pub Pruning-same : (rs0 rs rs1 : List Bool) (ps0 ps ps1 : List SegmentValue) (i : ℕ) → rs1 ≡ rs → ps1 ≡ ps → Pruning rs0 rs ps0 ps i → Pruning rs0 rs1 ps0 ps1 i
Pruning-same rs0 rs rs1 ps0 ps ps1 i e f h =
    subst (λ (xs : List Bool). Pruning rs0 xs ps0 ps1 i) (sym e) (subst (λ (xs : List SegmentValue). Pruning rs0 rs ps0 xs i) (sym f) h)

pub behind-none : (i : ℕ) (g : Link) (rs : List Bool) → ((k : ℕ) → g ≡ Ahead k → ⊥) → reached_behind i g rs ≡ rs
behind-none i (Ahead k) rs n = absurd (n k refl)
behind-none i (State s) rs n = refl
behind-none i (Fault at) rs n = refl

-- ---- one link after another

pub noted-next : (ps : List SegmentValue) (i : ℕ) (p : SegmentValue) (g : Link) (live : List Bool) → i < length ps → p ≡ get_or ps i p → g ≡ p.next → length live ≡ 32
    → AllLive live (take i ps) → AllLive (with_exit_of g live) (take (i + 1) ps)
noted-next ps i p g live low is e all h =
    subst (λ (xs : List SegmentValue). AllLive (with_exit_of g live) xs) (sym (take-next ps i p low is))
    (AllLive-append (with_exit_of g live) (take i ps) (p ∷ []) (noted-segments g (take i ps) live all h)
    (subst (λ (x : Link). LiveAt (with_exit_of g live) x) e (noted-here g live all), tt))

pub below-or : (P : LexState → Type 0) (j : ℕ) → ((s : LexState) → ordinal s < j → P s) → ((s : LexState) → ordinal s ≡ j → P s) → (s : LexState) → ordinal s < j + 1 → P s
below-or P j low here s lt = go (ordinal s == j) refl
  where
    go : (b : Bool) → (ordinal s == j) ≡ b → P s
    go true e = here s (grind (arith, e))
    go false e = let n : ordinal s ≢ j = grind (arith, e) in low s (omega (arith, n, lt))

pub noted-heads : (heads : List Link) (j : ℕ) (g : Link) (live : List Bool) → length live ≡ 32 → g ≡ get_or heads j (Fault 0)
    → ((s : LexState) → ordinal s < j → LiveAt live (head heads s)) → (s : LexState) → ordinal s < j + 1 → LiveAt (with_exit_of g live) (head heads s)
noted-heads heads j g live all is h =
    below-or (λ s. LiveAt (with_exit_of g live) (head heads s)) j
    (λ s lt. noted-more g (head heads s) live all (h s lt))
    (λ s e. subst (λ (x : Link). LiveAt (with_exit_of g live) x) (is ∙ ap (λ k. get_or heads k (Fault 0)) (sym e)) (noted-here g live all))

pub reached-heads : (heads : List Link) (live rs new : List Bool) (j : ℕ) → ((s : LexState) → ordinal s < j → is_live live s ≡ true → IsReached rs (head heads s))
    → ((g : Link) → IsReached rs g → IsReached new g) → (get_or live j false ≡ true → IsReached new (get_or heads j (Fault 0)))
    → (s : LexState) → ordinal s < j + 1 → is_live live s ≡ true → IsReached new (head heads s)
reached-heads heads live rs new j h more here =
    below-or (λ s. is_live live s ≡ true → IsReached new (head heads s)) j
    (λ s lt l. more (head heads s) (h s lt l))
    (λ s e l. subst (λ k. IsReached new (get_or heads k (Fault 0))) (sym e) (here (ap (λ k. get_or live k false) (sym e) ∙ l)))

pub reached-none : (rs : List Bool) (g : Link) → ((k : ℕ) → g ≡ Ahead k → ⊥) → IsReached rs g
reached-none rs (Ahead k) n = absurd (n k refl)
reached-none rs (State s) n = tt
reached-none rs (Fault at) n = tt

pub reached-set : (rs : List Bool) (k : ℕ) → k < length rs → IsReached (set rs k true) (Ahead k)
reached-set rs k low = get_or-set_same rs k true false low

-- a head leads to one of so many segments
pub head-in : (heads : List Link) (count j : ℕ) (d : Link) (k : ℕ) → length heads ≡ 32 → j < 32 → ((s : LexState) → IsIn count (head heads s)) → get_or heads j d ≡ Ahead k → k < count
head-in heads count j d k all low h e =
    let s = get_or all_states j state.Gap in
    let same : head heads s ≡ Ahead k = ap (λ n. get_or heads n (Fault 0)) (ordinal-at j low) ∙ get_or_default heads j (Fault 0) d (omega (arith, all, low)) ∙ e in
    subst (IsIn count) same (h s)
