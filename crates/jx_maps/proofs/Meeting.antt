-- Segments that stand in one state go on in one segment: no track changes.
use Rattle.std.proofs.Common.{◌≡◌, ◌≢◌, ℕ, ◌<◌, List, [], ◌∷◌, ◌++◌, length, refl, ap, sym, subst, ◌∙◌, arith, append-nil, map, Bool, true, false, ◌==◌}
use Rattle.std.proofs.lemmas.List.{get_or-map, get_or-set_same, get_or-set_other}
use Rattle.jx_lex.specs.declared.alphabet.state.LexState.{LexState}
use Rattle.jx_lex.specs.declared.alphabet.state.LexState.TheVariants as state
use Rattle.jx_lex.specs.declared.alphabet.mark.Mark.{Mark}
use Rattle.jx_lex.specs.Lex.{Track, LexExit}
use Rattle.jx_lex.specs.TwoPieces.{joined, right_of}
use Rattle.jx_maps.specs.declared.link.Link.{Link}
use Rattle.jx_maps.specs.declared.link.Link.TheVariants.{Ahead, State, Fault}
use Rattle.jx_lex.specs.Ordinal.{ordinal, all_states}
use Rattle.jx_maps.specs.Follow.{SegmentValue, done, follow, IsIn, AreIn, head}
use Rattle.jx_maps.specs.inside.Step.{opening, meeting_heads, met}
use Rattle.jx_maps.proofs.Joined.{follow-linked, joined-same}
use Rattle.jx_lex.proofs.StateOrder.{ordinal-low, same_ordinal, state-read}

head-same : (s : LexState) → head (map State all_states) s ≡ State s
head-same s = get_or-map State all_states (ordinal s) state.Gap (Fault 0) (ordinal-low s) ∙ ap State (state-read s)

pub head-meeting : (P : Link → Type 0) (s u : LexState) → (u ≡ s → P (Ahead 0)) → ((ordinal u == ordinal s) ≡ false → P (State u)) → P (head (meeting_heads s) u)
head-meeting P s u here there = go (ordinal u == ordinal s) refl
  where
    go : (b : Bool) → (ordinal u == ordinal s) ≡ b → P (head (meeting_heads s) u)
    go true e =
        let n : ordinal u ≡ ordinal s = grind (arith, e) in
        rw n (subst P (sym (get_or-set_same (map State all_states) (ordinal s) (Ahead 0) (Fault 0) (ordinal-low s))) (here (same_ordinal u s n)))
    go false e =
        let n : ordinal u ≢ ordinal s = grind (arith, e) in
        subst P (sym (get_or-set_other (map State all_states) (ordinal s) (ordinal u) (Ahead 0) (Fault 0) n ∙ head-same u)) (there e)

pub IsIn-meeting : (s u : LexState) → IsIn 1 (head (meeting_heads s) u)
IsIn-meeting s u = head-meeting (IsIn 1) s u (λ e. omega arith) (λ e. tt)

follow-opening : (s u : LexState) → follow (opening s ∷ []) (head (meeting_heads s) u) ≡ done (LexExit.state u)
unfolding follow
follow-opening s u = head-meeting (λ g. follow (opening s ∷ []) g ≡ done (LexExit.state u)) s u (λ e. ap (λ t. done (LexExit.state t)) (sym e)) (λ e. refl)

right-done : (e : LexExit) → right_of e (λ u. done (LexExit.state u)) ≡ done e
right-done (LexExit.state s) = refl
right-done (LexExit.fault at) = refl

joined-done : (t : Track) → joined t (λ u. done (LexExit.state u)) ≡ t
joined-done t =
    ap (λ (r : Track). record { marks = t.marks ++ r.marks; ends = t.ends ++ r.ends; exit = r.exit }) (right-done t.exit)
    ∙ ap (λ (m : List Mark). record { marks = m; ends = t.ends ++ []; exit = t.exit }) (append-nil t.marks)
    ∙ ap (λ (e : List ℕ). record { marks = t.marks; ends = e; exit = t.exit }) (append-nil t.ends)

pub follow-met : (s : LexState) (ps : List SegmentValue) (k : ℕ) → k < length ps → AreIn ps → follow (met s ps) (Ahead k) ≡ follow ps (Ahead k)
follow-met s ps k low w =
    follow-linked (meeting_heads s) (opening s ∷ []) ps (Ahead k) low w
    ∙ joined-same (follow ps (Ahead k)) (λ u. follow (opening s ∷ []) (head (meeting_heads s) u)) (λ u. done (LexExit.state u)) (follow-opening s)
    ∙ joined-done (follow ps (Ahead k))
