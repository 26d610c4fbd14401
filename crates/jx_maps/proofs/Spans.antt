-- A segment reads a stretch as the plain reading does.
use Rattle.std.proofs.Common.{Bool, true, false, subst, ◌≡◌, ℕ, suc, ◌+◌, List, [], ◌∷◌, ◌++◌, length, take, refl, ap, sym, ◌∙◌, arith, append-nil, append_assoc, Option, Some, None}
use Rattle.std.proofs.Math.Seq.{take-append_seam}
use Rattle.jx_lex.specs.declared.alphabet.state.LexState.{LexState}
use Rattle.jx_lex.specs.declared.alphabet.state.TokenEnd.{TokenEnd}
use Rattle.jx_lex.specs.declared.alphabet.state.TokenEnd.TheVariants.{Before, After}
use Rattle.jx_lex.specs.declared.alphabet.mark.Mark.{Mark}
use Rattle.jx_lex.specs.declared.alphabet.mark.MarkKind.{MarkKind}
use Rattle.jx_maps.specs.declared.link.Link.{Link}
use Rattle.jx_maps.specs.declared.link.Link.TheVariants.{Ahead, State, Fault}
use Rattle.jx_lex.specs.Moves.{move}
use Rattle.jx_lex.specs.Lex.{Track, lex, with_mark, with_end, on_next}
use Rattle.jx_maps.specs.Follow.{SegmentValue}
use Rattle.jx_maps.specs.inside.Step.{link_at, link_of, read_from, read_segment}
use Rattle.jx_maps.specs.inside.Passing.{read_bytes}
use Rattle.jx_maps.specs.inside.Bundle.{ReadsOn, is_apart}
use Rattle.jx_maps.proofs.ReadingOn.{reads-none, reads-then, reads-apart, reads-two, kept-one}
use Rattle.jx_maps.proofs.Passing.{closed-span}

with_mark-first : (m : Option MarkKind) (at : ℕ) (ms : List Mark) → with_mark m at [] ++ ms ≡ with_mark m at ms
with_mark-first None at ms = refl
with_mark-first (Some k) at ms = refl

with_end-first : (e : Option TokenEnd) (at : ℕ) (es : List ℕ) → with_end e at [] ++ es ≡ with_end e at es
with_end-first None at es = refl
with_end-first (Some Before) at es = refl
with_end-first (Some After) at es = refl

-- a segment with the marks and ends of a reading behind its own, which leads where the reading does
abbrev pub with_track : SegmentValue → Track → SegmentValue
with_track p t = record { marks = p.marks ++ t.marks; ends = p.ends ++ t.ends; next = link_at t.exit }

pub read-lex : (w : List ℕ) (at : ℕ) (p : SegmentValue) (s : LexState) → p.next ≡ State s → read_bytes at w p ≡ with_track p (lex s at w)
unfolding lex
read-lex [] at p s e =
    ap (λ (g : Link). record { marks = p.marks; ends = p.ends; next = g }) e
    ∙ ap (λ (ms : List Mark). record { marks = ms; ends = p.ends; next = State s }) (sym (append-nil p.marks))
    ∙ ap (λ (es : List ℕ). record { marks = p.marks ++ []; ends = es; next = State s }) (sym (append-nil p.ends))
read-lex (b ∷ w) at p s e =
    ap (λ (g : Link). read_bytes (suc at) w (read_from at b p g)) e
    ∙ go ((move s b).next) ((move s b).begin) ((move s b).end) (λ q n f. read-lex w (suc at) q n f)
  where
    go : (o : Option LexState) (m : Option MarkKind) (t : Option TokenEnd)
        → ((q : SegmentValue) (n : LexState) → q.next ≡ State n → read_bytes (suc at) w q ≡ with_track q (lex n (suc at) w))
        → read_bytes (suc at) w (record { marks = p.marks ++ with_mark m at []; ends = p.ends ++ with_end t at []; next = link_of at o })
        ≡ record {
          marks = p.marks ++ with_mark m at ((on_next o at (λ n. lex n (suc at) w)).marks);
          ends = p.ends ++ with_end t at ((on_next o at (λ n. lex n (suc at) w)).ends);
          next = link_at ((on_next o at (λ n. lex n (suc at) w)).exit);
        }
    go None m t more =
        sym (closed-span (suc at) w (record { marks = p.marks ++ with_mark m at []; ends = p.ends ++ with_end t at []; next = Fault at }) (λ n f. absurd cc))
    go (Some n) m t more =
        let r = lex n (suc at) w in
        more (record { marks = p.marks ++ with_mark m at []; ends = p.ends ++ with_end t at []; next = State n }) n refl
        ∙ ap (λ (ms : List Mark). record { marks = ms; ends = (p.ends ++ with_end t at []) ++ r.ends; next = link_at r.exit })
        (append_assoc p.marks (with_mark m at []) r.marks ∙ ap (λ (ms : List Mark). p.marks ++ ms) (with_mark-first m at r.marks))
        ∙ ap (λ (es : List ℕ). record { marks = p.marks ++ with_mark m at r.marks; ends = es; next = link_at r.exit })
        (append_assoc p.ends (with_end t at []) r.ends ∙ ap (λ (es : List ℕ). p.ends ++ es) (with_end-first t at r.ends))

-- two that lead to the same are led to the same
pub next-same : (w : List ℕ) (at : ℕ) (p q : SegmentValue) → p.next ≡ q.next → (read_bytes at w p).next ≡ (read_bytes at w q).next
next-same [] at p q e = e
next-same (b ∷ w) at p q e =
    next-same w (suc at) (read_segment at b p) (read_segment at b q) (one p.next refl (sym e) ∙ ap (λ (g : Link). (read_from at b q g).next) e)
  where
    one : (g : Link) → p.next ≡ g → q.next ≡ g → (read_from at b p g).next ≡ (read_from at b q g).next
    one (State s) f h = refl
    one (Ahead k) f h = f ∙ sym h
    one (Fault k) f h = f ∙ sym h

-- two that are led to different places stand in different states all the way, or one of them leads out
pub reads-differ : (w : List ℕ) (at : ℕ) (p q : SegmentValue) → ((read_bytes at w p).next ≡ (read_bytes at w q).next → ⊥)
    → ReadsOn at w (p ∷ q ∷ []) (read_bytes at w p ∷ read_bytes at w q ∷ [])
reads-differ [] at p q h = reads-none at (p ∷ q ∷ [])
reads-differ (b ∷ w) at p q h =
    let n : suc at ≡ at + 1 = omega arith in
    let p1 = read_segment at b p in
    let q1 = read_segment at b q in
    let rest : ReadsOn (suc at) w (p1 ∷ q1 ∷ []) (read_bytes (suc at) w p1 ∷ read_bytes (suc at) w q1 ∷ []) = reads-differ w (suc at) p1 q1 h in
    reads-then at (b ∷ []) w (p ∷ q ∷ []) (p1 ∷ q1 ∷ []) (read_bytes (suc at) w p1 ∷ read_bytes (suc at) w q1 ∷ [])
    (one (is_apart p.next q.next) refl)
    (subst (λ i. ReadsOn i w (p1 ∷ q1 ∷ []) (read_bytes (suc at) w p1 ∷ read_bytes (suc at) w q1 ∷ [])) n rest)
  where
    one : (c : Bool) → is_apart p.next q.next ≡ c → ReadsOn at (b ∷ []) (p ∷ q ∷ []) (read_segment at b p ∷ read_segment at b q ∷ [])
    one true e = reads-apart at b p q e
    one false e = reads-two at (b ∷ []) p q (kept-one (b ∷ []) p.next q.next e (λ s f k. h (next-same (b ∷ w) at p q (f ∙ sym k))))

-- ---- back to where a stretch began

take-whole : {A : Type 0} (xs : List A) → take (length xs) xs ≡ xs
take-whole {A = A} xs = ap (λ (zs : List A). take (length xs) zs) (sym (append-nil xs)) ∙ take-append_seam xs []

abbrev pub cut_to : SegmentValue → SegmentValue → SegmentValue
cut_to p r = record { marks = take (length p.marks) r.marks; ends = take (length p.ends) r.ends; next = p.next }

pub cut-back : (at : ℕ) (w : List ℕ) (p : SegmentValue) → cut_to p (read_bytes at w p) ≡ p
cut-back at w p = go p.next refl
  where
    same : ((s : LexState) → p.next ≡ State s → ⊥) → cut_to p (read_bytes at w p) ≡ p
    same out =
        ap (λ (r : SegmentValue). cut_to p r) (sym (closed-span at w p out))
        ∙ ap (λ (ms : List Mark). record { marks = ms; ends = take (length p.ends) p.ends; next = p.next }) (take-whole p.marks)
        ∙ ap (λ (es : List ℕ). record { marks = p.marks; ends = es; next = p.next }) (take-whole p.ends)

    go : (g : Link) → p.next ≡ g → cut_to p (read_bytes at w p) ≡ p
    go (State s) e =
        ap (λ (r : SegmentValue). cut_to p r) (read-lex w at p s e)
        ∙ ap (λ (ms : List Mark). record { marks = ms; ends = take (length p.ends) (p.ends ++ (lex s at w).ends); next = p.next }) (take-append_seam p.marks ((lex s at w).marks))
        ∙ ap (λ (es : List ℕ). record { marks = p.marks; ends = es; next = p.next }) (take-append_seam p.ends ((lex s at w).ends))
    go (Ahead k) e = same (λ s f. let x = sym e ∙ f in absurd cc)
    go (Fault k) e = same (λ s f. let x = sym e ∙ f in absurd cc)

-- ---- a vector always wants more
