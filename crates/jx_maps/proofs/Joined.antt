-- Two maps one behind the other.
use Rattle.std.proofs.Common.{◌≡◌, ℕ, zero, suc, ◌+◌, ◌-◌, ◌<◌, List, [], ◌∷◌, ◌++◌, length, get_or, refl, ap, sym, subst, ◌∙◌, arith, add-one, append_assoc, length-append, take, drop, set, map}
use Rattle.std.proofs.lemmas.List.{length-map, get_or-map}
use Rattle.jx_lex.specs.declared.alphabet.state.LexState.{LexState}
use Rattle.jx_lex.specs.declared.alphabet.mark.Mark.{Mark}
use Rattle.jx_lex.specs.Lex.{Track, LexExit, lex}
use Rattle.jx_lex.specs.TwoPieces.{joined, right_of}
use Rattle.jx_lex.proofs.LexJoin.{lex-append}
use Rattle.jx_lex.proofs.StateOrder.{ordinal-low}
use Rattle.jx_maps.specs.Map.{Map, IsLinked, IsOf, joined_map, track}
use Rattle.jx_maps.specs.declared.link.Link.{Link}
use Rattle.jx_maps.specs.declared.link.Link.TheVariants.{Ahead, State, Fault}
use Rattle.jx_lex.specs.Ordinal.{ordinal}
use Rattle.jx_maps.specs.Follow.{SegmentValue, behind, follow, IsIn, AreIn, shifted, head, linked, linked_segments}

pub length-linked : (heads : List Link) (ps : List SegmentValue) → length (linked_segments heads ps) ≡ length ps
length-linked heads [] = refl
length-linked heads (p ∷ ps) = ap suc (length-linked heads ps)

-- over segments that stand in front, one goes where one went without them
pub follow-shifted : (xs rs : List SegmentValue) (g : Link) → follow (xs ++ rs) (shifted (length xs) g) ≡ follow rs g
unfolding follow
follow-shifted [] rs (Ahead k) = let e : 0 + k ≡ k = omega arith in ap (λ n. follow rs (Ahead n)) e
follow-shifted (x ∷ xs) rs (Ahead k) =
    let e : suc (length xs) + k ≡ suc (length xs + k) = omega arith in
    ap (λ n. follow (x ∷ (xs ++ rs)) (Ahead n)) e ∙ follow-shifted xs rs (Ahead k)
follow-shifted xs rs (State s) = refl
follow-shifted xs rs (Fault at) = refl

pub behind-joined : (p : SegmentValue) (t : Track) (right : LexState → Track) → behind p (joined t right) ≡ joined (behind p t) right
behind-joined p t right =
    let r = right_of t.exit right in
    ap (λ (m : List Mark). record { marks = m; ends = p.ends ++ (t.ends ++ r.ends); exit = r.exit }) (sym (append_assoc p.marks t.marks r.marks))
    ∙ ap (λ (e : List ℕ). record { marks = (p.marks ++ t.marks) ++ r.marks; ends = e; exit = r.exit }) (sym (append_assoc p.ends t.ends r.ends))

-- the track of the right side stands behind that of the left
pub follow-linked : (heads : List Link) (rs ps : List SegmentValue) (g : Link) → IsIn (length ps) g → AreIn ps
    → follow (linked_segments heads ps ++ rs) (linked heads (length ps) g) ≡ joined (follow ps g) (λ s. follow rs (head heads s))
unfolding follow
follow-linked heads rs ps (State s) h w =
    ap (λ n. follow (linked_segments heads ps ++ rs) (shifted n (head heads s))) (sym (length-linked heads ps))
    ∙ follow-shifted (linked_segments heads ps) rs (head heads s)
follow-linked heads rs ps (Fault at) h w = refl
follow-linked heads rs [] (Ahead k) h w = absurd (omega (arith, h))
follow-linked heads rs (p ∷ ps) (Ahead zero) h w =
    ap (behind (record p { next = linked heads (length ps) p.next })) (follow-linked heads rs ps p.next w.0 w.1)
    ∙ behind-joined p (follow ps p.next) (λ s. follow rs (head heads s))
follow-linked heads rs (p ∷ ps) (Ahead (suc k)) h w = follow-linked heads rs ps (Ahead k) (omega (arith, h)) w.1

-- one segment more leads on
link-next : (heads : List Link) (ps : List SegmentValue) (i r : ℕ) (p : SegmentValue) → r + suc i ≡ length ps
    → p ≡ get_or (take i (linked_segments heads ps) ++ drop i ps) i p
    → set (take i (linked_segments heads ps) ++ drop i ps) i (record p { next = linked heads r p.next })
    ≡ take (suc i) (linked_segments heads ps) ++ drop (suc i) ps
link-next heads [] i r p e q = absurd (omega (arith, e))
link-next heads (x ∷ ps) zero r p e q =
    let n : r ≡ length ps = omega (arith, e) in
    ap (λ (y : SegmentValue). record y { next = linked heads r y.next } ∷ ps) q
    ∙ ap (λ k. record x { next = linked heads k x.next } ∷ ps) n
link-next heads (x ∷ ps) (suc i) r p e q =
    ap (λ (ys : List SegmentValue). record x { next = linked heads (length ps) x.next } ∷ ys) (link-next heads ps i r p (omega (arith, e)) q)

pub link-more : (heads : List Link) (ps ys : List SegmentValue) (i : ℕ) (p : SegmentValue) → i < length ps
    → ys ≡ take i (linked_segments heads ps) ++ drop i ps
    → p ≡ get_or ys i p
    → set ys i (record p { next = linked heads (length ps - i - 1) p.next }) ≡ take (i + 1) (linked_segments heads ps) ++ drop (i + 1) ps
link-more heads ps ys i p low is q =
    rw (is, add-one) (link-next heads ps i (length ps - i - 1) p (omega (arith, low)) (rw is at q))

IsIn-shifted : (n m : ℕ) (g : Link) → IsIn m g → IsIn (n + m) (shifted n g)
IsIn-shifted n m (Ahead k) h = omega (arith, h)
IsIn-shifted n m (State s) h = tt
IsIn-shifted n m (Fault at) h = tt

pub IsIn-linked : (heads : List Link) (n m : ℕ) (g : Link) → ((s : LexState) → IsIn m (head heads s)) → IsIn n g → IsIn (n + m) (linked heads n g)
IsIn-linked heads n m (Ahead k) all h = omega (arith, h)
IsIn-linked heads n m (State s) all h = IsIn-shifted n m (head heads s) (all s)
IsIn-linked heads n m (Fault at) all h = tt

pub AreIn-linked : (heads : List Link) (ps rs : List SegmentValue) → ((s : LexState) → IsIn (length rs) (head heads s)) → AreIn ps → AreIn rs
    → AreIn (linked_segments heads ps ++ rs)
AreIn-linked heads [] rs all w v = v
AreIn-linked heads (p ∷ ps) rs all w v =
    let e : length (linked_segments heads ps ++ rs) ≡ length ps + length rs = length-append (linked_segments heads ps) rs ∙ ap (λ n. n + length rs) (length-linked heads ps) in
    (subst (λ n. IsIn n (linked heads (length ps) p.next)) (sym e) (IsIn-linked heads (length ps) (length rs) p.next all w.0), AreIn-linked heads ps rs all w.1 v)

pub head-map : (f : Link → Link) (heads : List Link) (s : LexState) → length heads ≡ 32 → head (map f heads) s ≡ f (head heads s)
head-map f heads s all = get_or-map f heads (ordinal s) (Fault 0) (Fault 0) (rw all (ordinal-low s))

pub IsWhole-joined : (l r : Map) → IsLinked l → IsLinked r → IsLinked (joined_map l r)
IsWhole-joined l r wl wr =
    record {
      all = length-map l.heads (linked r.heads (length l.segments)) ∙ wl.all;
      heads = λ s. rw (head-map (linked r.heads (length l.segments)) l.heads s wl.all) (subst (λ n. IsIn n (linked r.heads (length l.segments) (head l.heads s)))
          (sym (length-append (linked_segments r.heads l.segments) r.segments ∙ ap (λ n. n + length r.segments) (length-linked r.heads l.segments)))
          (IsIn-linked r.heads (length l.segments) (length r.segments) (head l.heads s) wr.heads (wl.heads s)));
      segments = AreIn-linked r.heads l.segments r.segments wr.heads wl.segments wr.segments;
    }

-- the tracks of the joined map are those of the left, with those of the right behind them
pub track-joined : (l r : Map) (s : LexState) → IsLinked l → track (joined_map l r) s ≡ joined (track l s) (track r)
track-joined l r s w =
    ap (follow (linked_segments r.heads l.segments ++ r.segments)) (head-map (linked r.heads (length l.segments)) l.heads s w.all)
    ∙ follow-linked r.heads r.segments l.segments (head l.heads s) (w.heads s) w.segments

right_of-same : (e : LexExit) (f g : LexState → Track) → ((s : LexState) → f s ≡ g s) → right_of e f ≡ right_of e g
right_of-same (LexExit.state s) f g h = h s
right_of-same (LexExit.fault at) f g h = refl

-- what follows is asked only at the exit
pub joined-same : (t : Track) (f g : LexState → Track) → ((s : LexState) → f s ≡ g s) → joined t f ≡ joined t g
joined-same t f g h = ap (λ (r : Track). record { marks = t.marks ++ r.marks; ends = t.ends ++ r.ends; exit = r.exit }) (right_of-same t.exit f g h)

-- the join of neighbours is of their joined bytes
pub IsOf-joined : (l r : Map) (xs ys : List ℕ) → IsLinked l → l.end ≡ r.start → IsOf xs l → IsOf ys r → IsOf (xs ++ ys) (joined_map l r)
IsOf-joined l r xs ys w meet hl hr =
    record {
      long = let a = hl.long in let b = hr.long in let c = length-append xs ys in omega (arith, a, b, c, meet);
      tracks = λ s.
          track-joined l r s w
          ∙ ap (λ t. joined t (track r)) (hl.tracks s)
          ∙ joined-same (lex s l.start xs) (track r) (λ t. lex t (l.start + length xs) ys) (λ t. hr.tracks t ∙ ap (λ at. lex t at ys) (sym meet ∙ hl.long))
          ∙ sym (lex-append xs ys s l.start);
    }
