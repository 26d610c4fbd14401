-- One more byte takes each track one step on.
use Rattle.std.proofs.Common.{◌≡◌, ℕ, zero, suc, ◌<◌, List, [], ◌∷◌, ◌++◌, length, refl, ap, sym, subst, ◌∙◌, arith, append-nil, map, Option, Some, None}
use Rattle.std.proofs.lemmas.List.{length-map}
use Rattle.jx_lex.specs.declared.alphabet.state.LexState.{LexState}
use Rattle.jx_lex.specs.declared.alphabet.mark.Mark.{Mark}
use Rattle.jx_lex.specs.Moves.{move}
use Rattle.jx_lex.specs.Lex.{Track, state, fault, lex, with_mark, with_end, on_next}
use Rattle.jx_lex.specs.TwoPieces.{joined}
use Rattle.jx_maps.specs.declared.link.Link.{Link}
use Rattle.jx_maps.specs.declared.link.Link.TheVariants.{Ahead, State, Fault}
use Rattle.jx_maps.specs.Follow.{SegmentValue, done, behind, follow, IsIn, AreIn}
use Rattle.jx_maps.specs.inside.Step.{link_of, read_from, read_segment}
use Rattle.jx_lex.proofs.OneByte.{one, one-is}
use Rattle.jx_maps.proofs.Joined.{behind-joined}

follow-link_of : (ps : List SegmentValue) (at : ℕ) (m : Option LexState) → follow ps (link_of at m) ≡ done ((on_next m at (λ n. lex n (suc at) [])).exit)
unfolding follow lex
follow-link_of ps at None = refl
follow-link_of ps at (Some n) = refl

swap-nil : {A : Type 0} (xs ys : List A) → (xs ++ ys) ++ [] ≡ (xs ++ []) ++ ys
swap-nil xs ys = append-nil (xs ++ ys) ∙ ap (λ zs. zs ++ ys) (sym (append-nil xs))

-- a segment that ended a track
read-end : (at byte : ℕ) (p : SegmentValue) (qs : List SegmentValue) (s : LexState)
    → behind (read_from at byte p (State s)) (follow qs (link_of at ((move s byte).next))) ≡ joined (behind p (done (state s))) (one at byte)
read-end at byte p qs s =
    let wm = with_mark ((move s byte).begin) at [] in
    let we = with_end ((move s byte).end) at [] in
    let x = (on_next ((move s byte).next) at (λ n. lex n (suc at) [])).exit in
    ap (behind (read_from at byte p (State s))) (follow-link_of qs at ((move s byte).next))
    ∙ ap (λ (m : List Mark). record { marks = m; ends = (p.ends ++ we) ++ []; exit = x }) (swap-nil p.marks wm)
    ∙ ap (λ (e : List ℕ). record { marks = (p.marks ++ []) ++ wm; ends = e; exit = x }) (swap-nil p.ends we)
    ∙ ap (λ (t : Track). record { marks = (p.marks ++ []) ++ t.marks; ends = (p.ends ++ []) ++ t.ends; exit = t.exit }) (sym (one-is at byte s))

-- each track that leads to a segment is one byte longer
pub follow-read : (at byte : ℕ) (ps : List SegmentValue) (k : ℕ) → k < length ps → AreIn ps
    → follow (map (read_segment at byte) ps) (Ahead k) ≡ joined (follow ps (Ahead k)) (one at byte)
unfolding follow
follow-read at byte [] k low w = absurd (omega (arith, low))
follow-read at byte (p ∷ ps) (suc k) low w = follow-read at byte ps k (omega (arith, low)) w.1
follow-read at byte (p ∷ ps) zero low w = go p.next refl w.0 (λ j h. follow-read at byte ps j h w.1)
  where
    go : (g : Link) → p.next ≡ g → IsIn (length ps) g
        → ((j : ℕ) → j < length ps → follow (map (read_segment at byte) ps) (Ahead j) ≡ joined (follow ps (Ahead j)) (one at byte))
        → behind (read_from at byte p g) (follow (map (read_segment at byte) ps) ((read_from at byte p g).next)) ≡ joined (behind p (follow ps g)) (one at byte)
    go (Ahead j) e h more =
        ap (λ n. behind p (follow (map (read_segment at byte) ps) n)) e
        ∙ ap (behind p) (more j h)
        ∙ behind-joined p (follow ps (Ahead j)) (one at byte)
    go (Fault f) e h more = ap (λ n. behind p (follow (map (read_segment at byte) ps) n)) e ∙ behind-joined p (done (fault f)) (one at byte)
    go (State s) e h more = read-end at byte p (map (read_segment at byte) ps) s

IsIn-read : (at byte n : ℕ) (p : SegmentValue) (g : Link) → p.next ≡ g → IsIn n g → IsIn n ((read_from at byte p g).next)
IsIn-read at byte n p (Ahead k) e h = rw e h
IsIn-read at byte n p (Fault f) e h = rw e h
IsIn-read at byte n p (State s) e h = go ((move s byte).next)
  where
    go : (m : Option LexState) → IsIn n (link_of at m)
    go None = tt
    go (Some x) = tt

pub AreIn-read : (at byte : ℕ) (ps : List SegmentValue) → AreIn ps → AreIn (map (read_segment at byte) ps)
AreIn-read at byte [] w = tt
AreIn-read at byte (p ∷ ps) w = (subst (λ n. IsIn n ((read_segment at byte p).next)) (sym (length-map ps (read_segment at byte))) (IsIn-read at byte (length ps) p p.next refl w.0), AreIn-read at byte ps w.1)
