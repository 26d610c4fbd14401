-- The reading from the start of a text through two neighbouring runs.
use Rattle.std.proofs.Common.{◌≡◌, ℕ, ◌+◌, List, ◌++◌, length, refl, sym, ap, ◌∙◌}
use Rattle.jx_lex.specs.declared.alphabet.state.LexState.{LexState}
use Rattle.jx_lex.specs.declared.alphabet.state.LexState.TheVariants as state
use Rattle.jx_lex.specs.Lex.{lex, LexExit, Track}
use Rattle.jx_maps.specs.Map.{track}
use Rattle.jx_lex.specs.TwoPieces.{joined, right_of}
use Rattle.jx_run.specs.TextRun.{TextRunValue, IsTextRun}

right_same : (e : LexExit) (f g : LexState → Track) → ((s : LexState) → f s ≡ g s) → right_of e f ≡ right_of e g
right_same (LexExit.state s) f g h = h s
right_same (LexExit.fault at) f g h = refl

joined_same : (t : Track) (f g : LexState → Track) → ((s : LexState) → f s ≡ g s) → joined t f ≡ joined t g
joined_same t f g h =
    ap (λ (r : Track). record { marks = t.marks ++ r.marks; ends = t.ends ++ r.ends; exit = r.exit }) (right_same t.exit f g h)

-- bytes are read in two parts
abbrev pub Two : Type 0
Two = (s : LexState) (at : ℕ) (first rest : List ℕ) → lex s at (first ++ rest) ≡ joined (lex s at first) (λ next. lex next (at + length first) rest)

-- the track through both
pub track_through : Two → (l r : TextRunValue) → l.map.end ≡ r.map.start → (xs ys : List ℕ) → IsTextRun xs l → IsTextRun ys r
    → lex state.Gap l.map.start (xs ++ ys) ≡ joined (track l.map state.Gap) (track r.map)
track_through two l r mid xs ys h k =
    let here : l.map.start + length xs ≡ r.map.start = sym h.long ∙ mid in
    two state.Gap l.map.start xs ys
    ∙ ap (λ t. joined t (λ s. lex s (l.map.start + length xs) ys)) (sym (h.tracks state.Gap))
    ∙ joined_same (track l.map state.Gap) (λ s. lex s (l.map.start + length xs) ys) (track r.map) (λ s. ap (λ n. lex s n ys) here ∙ sym (k.tracks s))

pub marks_through : Two → (l r : TextRunValue) (e : LexExit) → (track l.map state.Gap).exit ≡ e → l.map.end ≡ r.map.start → (xs ys : List ℕ) → IsTextRun xs l → IsTextRun ys r
    → (lex state.Gap l.map.start (xs ++ ys)).marks ≡ (track l.map state.Gap).marks ++ (right_of e (track r.map)).marks
marks_through two l r e ends mid xs ys h k =
    ap (λ (t : Track). t.marks) (track_through two l r mid xs ys h k)
    ∙ ap (λ x. (track l.map state.Gap).marks ++ (right_of x (track r.map)).marks) ends

pub ends_through : Two → (l r : TextRunValue) (e : LexExit) → (track l.map state.Gap).exit ≡ e → l.map.end ≡ r.map.start → (xs ys : List ℕ) → IsTextRun xs l → IsTextRun ys r
    → (lex state.Gap l.map.start (xs ++ ys)).ends ≡ (track l.map state.Gap).ends ++ (right_of e (track r.map)).ends
ends_through two l r e ends mid xs ys h k =
    ap (λ (t : Track). t.ends) (track_through two l r mid xs ys h k)
    ∙ ap (λ x. (track l.map state.Gap).ends ++ (right_of x (track r.map)).ends) ends
