-- Bytes that keep the state and have no event may be passed over.
use Rattle.std.proofs.Common.{◌≡◌, ℕ, suc, ◌+◌, List, [], ◌∷◌, ◌++◌, length, refl, ap, sym, ◌∙◌, arith, append-nil}
use Rattle.jx_lex.specs.declared.alphabet.state.LexState.{LexState}
use Rattle.jx_lex.specs.declared.alphabet.state.Step.{Step}
use Rattle.jx_lex.specs.Moves.{move, go}
use Rattle.jx_lex.specs.declared.alphabet.mark.Mark.{Mark}
use Rattle.jx_maps.specs.declared.link.Link.{Link}
use Rattle.jx_maps.specs.declared.link.Link.TheVariants.{Ahead, State, Fault}
use Rattle.jx_maps.specs.Follow.{SegmentValue}
use Rattle.jx_maps.specs.inside.Step.{read_segment, read_from, link_of}
use Rattle.jx_lex.specs.Lex.{with_mark, with_end}
use Rattle.jx_maps.specs.inside.Passing.{KeptBy, LedBy, read_bytes}
use Rattle.jx_lex.specs.Uneventful.{Leads}
use Rattle.jx_lex.proofs.Running.{AllKeep-leads}

pub keep-segment : (at b : ℕ) (s : LexState) (p : SegmentValue) → p.next ≡ State s → move s b ≡ go s → read_segment at b p ≡ p
keep-segment at b s p e k =
    ap (read_from at b p) e
    ∙ ap (λ (m : Step). record { marks = p.marks ++ with_mark m.begin at []; ends = p.ends ++ with_end m.end at []; next = link_of at m.next }) k
    ∙ ap (λ (ms : List Mark). record { marks = ms; ends = p.ends ++ []; next = State s }) (append-nil p.marks)
    ∙ ap (λ (es : List ℕ). record { marks = p.marks; ends = es; next = State s }) (append-nil p.ends)
    ∙ ap (λ (g : Link). record { marks = p.marks; ends = p.ends; next = g }) (sym e)

go-segment : (at b : ℕ) (s next : LexState) (p : SegmentValue) → p.next ≡ State s → move s b ≡ go next
    → read_segment at b p ≡ record { marks = p.marks; ends = p.ends; next = State next }
go-segment at b s next p e k =
    ap (read_from at b p) e
    ∙ ap (λ (m : Step). record { marks = p.marks ++ with_mark m.begin at []; ends = p.ends ++ with_end m.end at []; next = link_of at m.next }) k
    ∙ ap (λ (ms : List Mark). record { marks = ms; ends = p.ends ++ []; next = State next }) (append-nil p.marks)
    ∙ ap (λ (es : List ℕ). record { marks = p.marks; ends = es; next = State next }) (append-nil p.ends)

-- bytes with no event lead from one state to another
pub led-over : (at : ℕ) (u v : List ℕ) (s t : LexState) (p : SegmentValue) → p.next ≡ State s → Leads s u t
    → read_bytes at (u ++ v) p ≡ read_bytes (at + length u) v (record { marks = p.marks; ends = p.ends; next = State t })
led-over at [] v s t p e h =
    let z : at ≡ at + 0 = omega arith in
    ap (λ n. read_bytes n v p) z
    ∙ ap (λ (g : Link). read_bytes (at + 0) v (record { marks = p.marks; ends = p.ends; next = g })) (e ∙ ap State h)
led-over at (b ∷ u) v s t p e h =
    ap (read_bytes (suc at) (u ++ v)) (go-segment at b s h.0 p e h.1)
    ∙ led-over (suc at) u v h.0 t (record { marks = p.marks; ends = p.ends; next = State h.0 }) refl h.2
    ∙ (let z : suc at + length u ≡ at + suc (length u) = omega arith in ap (λ n. read_bytes n v (record { marks = p.marks; ends = p.ends; next = State t })) z)

still-segment : (at b : ℕ) (p : SegmentValue) (g : Link) → p.next ≡ g → ((s : LexState) → g ≡ State s → ⊥) → read_segment at b p ≡ p
still-segment at b p (State s) e h = absurd (h s refl)
still-segment at b p (Ahead k) e h = ap (read_from at b p) e
still-segment at b p (Fault f) e h = ap (read_from at b p) e

out-over : (at : ℕ) (u v : List ℕ) (p : SegmentValue) → ((s : LexState) → p.next ≡ State s → ⊥) → read_bytes at (u ++ v) p ≡ read_bytes (at + length u) v p
out-over at [] v p h = let z : at ≡ at + 0 = omega arith in ap (λ n. read_bytes n v p) z
out-over at (b ∷ u) v p h =
    ap (read_bytes (suc at) (u ++ v)) (still-segment at b p p.next refl h)
    ∙ out-over (suc at) u v p h
    ∙ (let z : suc at + length u ≡ at + suc (length u) = omega arith in ap (λ n. read_bytes n v p) z)

-- bytes that lead back to where a segment stands may be passed over
pub pass-over : (at : ℕ) (u v : List ℕ) (p : SegmentValue) (g : Link) → p.next ≡ g → LedBy g u → read_bytes at (u ++ v) p ≡ read_bytes (at + length u) v p
pass-over at u v p (State s) e h =
    led-over at u v s s p e h ∙ ap (λ (g : Link). read_bytes (at + length u) v (record { marks = p.marks; ends = p.ends; next = g })) (sym e)
pass-over at u v p (Ahead k) e h = out-over at u v p (λ s f. let x = sym e ∙ f in absurd cc)
pass-over at u v p (Fault k) e h = out-over at u v p (λ s f. let x = sym e ∙ f in absurd cc)

pub kept-leads : (g : Link) (u : List ℕ) → KeptBy g u → LedBy g u
kept-leads (State s) u h = AllKeep-leads s u h
kept-leads (Ahead k) u h = tt
kept-leads (Fault k) u h = tt

-- what leads out is changed by no byte
pub closed-span : (at : ℕ) (w : List ℕ) (p : SegmentValue) → ((s : LexState) → p.next ≡ State s → ⊥) → p ≡ read_bytes at w p
closed-span at w p h = sym (ap (λ v. read_bytes at v p) (sym (append-nil w)) ∙ pass-over at w [] p p.next refl (go p.next h))
  where
    go : (g : Link) → ((s : LexState) → g ≡ State s → ⊥) → LedBy g w
    go (State s) h = absurd (h s refl)
    go (Ahead k) h = tt
    go (Fault at) h = tt
