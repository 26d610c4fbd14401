-- A segment that does not lead out in a state stays as it is in a join, and after a join so are all of the left.
use Rattle.std.proofs.Common.{◌≡◌, ℕ, zero, suc, ◌+◌, List, [], ◌∷◌, ◌++◌, length, refl, ap, sym, subst, ◌∙◌, arith, take, drop, map, length-append}
use Rattle.std.proofs.lemmas.List.{take-append-drop}
use Rattle.jx_lex.specs.declared.alphabet.state.LexState.{LexState}
use Rattle.jx_maps.specs.declared.link.Link.{Link}
use Rattle.jx_maps.specs.declared.link.Link.TheVariants.{Ahead, State, Fault}
use Rattle.jx_maps.specs.Follow.{SegmentValue, head, linked, linked_segments}
use Rattle.jx_maps.specs.inside.Closed.{IsClosed, ClosedTo, AreClosed}
use Rattle.jx_maps.proofs.Joined.{head-map, length-linked}
use Rattle.jx_maps.proofs.Building.{closed-link}

closed-same : (heads : List Link) (n : ℕ) (g : Link) → IsClosed g → linked heads n g ≡ g
closed-same heads n (Ahead k) h = refl
closed-same heads n (Fault at) h = refl
closed-same heads n (State s) h = absurd h

closed-take : (heads : List Link) (k : ℕ) (ps : List SegmentValue) → ClosedTo k ps → take k (linked_segments heads ps) ≡ take k ps
closed-take heads zero ps h = refl
closed-take heads (suc k) [] h = refl
closed-take heads (suc k) (p ∷ ps) h =
    ap (λ (g : Link). record p { next = g } ∷ take k (linked_segments heads ps)) (closed-same heads (length ps) p.next h.0)
    ∙ ap (λ (qs : List SegmentValue). p ∷ qs) (closed-take heads k ps h.1)

pub link-start : (heads : List Link) (k : ℕ) (ps : List SegmentValue) → ClosedTo k ps → ps ≡ take k (linked_segments heads ps) ++ drop k ps
link-start heads k ps h = sym (ap (λ qs. qs ++ drop k ps) (closed-take heads k ps h) ∙ take-append-drop k ps)

ClosedTo-joined : (heads : List Link) (k : ℕ) (ps rs : List SegmentValue) → ((s : LexState) → IsClosed (head heads s)) → ClosedTo k rs → ClosedTo (length ps + k) (linked_segments heads ps ++ rs)
ClosedTo-joined heads k [] rs all h = let e : 0 + k ≡ k = omega arith in subst (λ n. ClosedTo n rs) (sym e) h
ClosedTo-joined heads k (p ∷ ps) rs all h =
    let e : suc (length ps) + k ≡ suc (length ps + k) = omega arith in
    subst (λ n. ClosedTo n (linked_segments heads (p ∷ ps) ++ rs)) (sym e) (closed-link heads (length ps) p.next all, ClosedTo-joined heads k ps rs all h)

pub AreClosed-joined : (lheads rheads : List Link) (ps rs : List SegmentValue) (i j : ℕ) → length lheads ≡ 32 → AreClosed i lheads ps → AreClosed j rheads rs
    → AreClosed (length ps + j) (map (linked rheads (length ps)) lheads) (linked_segments rheads ps ++ rs)
AreClosed-joined lheads rheads ps rs i j all l r =
    record {
      within = let e = length-append (linked_segments rheads ps) rs in let f = length-linked rheads ps in let w = r.within in omega (arith, e, f, w);
      all = λ s. subst IsClosed (sym (head-map (linked rheads (length ps)) lheads s all)) (closed-link rheads (length ps) (head lheads s) r.all);
      segments = ClosedTo-joined rheads j ps rs r.all r.segments;
    }
