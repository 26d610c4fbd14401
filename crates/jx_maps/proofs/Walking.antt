-- One segment further on.
use Rattle.std.proofs.Common.{◌≡◌, ℕ, zero, suc, ◌+◌, ◌<◌, List, [], ◌∷◌, ◌++◌, length, get_or, refl, ap, sym, subst, ◌∙◌, arith, drop, All, flat_map}
use Rattle.std.proofs.lemmas.List.Elements.{All-cons, All-nil}
use Rattle.std.proofs.lemmas.List.Concat.{flat_map-cons}
use Rattle.std.proofs.lemmas.List.{get_or-drop}
use Rattle.jx_lex.specs.declared.alphabet.mark.Mark.{Mark}
use Rattle.jx_maps.specs.declared.link.Link.{Link}
use Rattle.jx_maps.specs.declared.link.Link.TheVariants.{Ahead, State, Fault}
use Rattle.jx_lex.specs.Lex.{Track, LexExit, state, fault}
use Rattle.jx_maps.specs.Follow.{SegmentValue, done, behind, follow, IsIn, AreIn}
use Rattle.jx_maps.specs.View.{path_from, marks_at, ends_at}

pub record Walks (ps : List SegmentValue) (k : ℕ) (p : SegmentValue) : Type 0 where
  pub track : follow ps (Ahead k) ≡ behind p (follow (drop (k + 1) ps) p.next)
  pub next : IsIn (length (drop (k + 1) ps)) p.next
  pub rest : AreIn (drop (k + 1) ps)

pub walk : (ps : List SegmentValue) (k : ℕ) (p : SegmentValue) → k < length ps → AreIn ps → p ≡ get_or ps k p → Walks ps k p
unfolding follow
walk [] k p low w e = absurd (omega (arith, low))
walk (x ∷ ps) zero p low w e = rw e (record { track = refl; next = w.0; rest = w.1 })
walk (x ∷ ps) (suc k) p low w e =
    let h = walk ps k p (omega (arith, low)) w.1 e in
    let n : suc k + 1 ≡ suc (k + 1) = omega arith in
    record {
      track = h.track ∙ ap (λ j. behind p (follow (drop j (x ∷ ps)) p.next)) (sym n);
      next = subst (λ j. IsIn (length (drop j (x ∷ ps))) p.next) (sym n) h.next;
      rest = subst (λ j. AreIn (drop j (x ∷ ps))) (sym n) h.rest;
    }

pub record Stepped (ps rest : List SegmentValue) (g : Link) (p : SegmentValue) : Type 0 where
  pub track : follow ps g ≡ behind p (follow rest p.next)
  pub next : IsIn (length rest) p.next
  pub all : AreIn rest

pub stepped : (ps rest : List SegmentValue) (g : Link) (k : ℕ) (p : SegmentValue) → g ≡ Ahead k → IsIn (length ps) g → AreIn ps → p ≡ get_or ps k p → rest ≡ drop (k + 1) ps → Stepped ps rest g p
stepped ps rest g k p e i w q r =
    let low : k < length ps = subst (IsIn (length ps)) e i in
    let h = walk ps k p low w q in
    rw (e, r) (record { track = h.track; next = h.next; all = h.rest })

-- the next number on the way, and the way from there
pub path-walk : (n : ℕ) (ps : List SegmentValue) (k : ℕ) (p : SegmentValue) → k < length ps → p ≡ get_or ps k p
    → path_from n ps (Ahead k) ≡ (n + k) ∷ path_from (n + k + 1) (drop (k + 1) ps) p.next
unfolding path_from
path-walk n [] k p low e = absurd (omega (arith, low))
path-walk n (x ∷ ps) zero p low e =
    let a : n ≡ n + 0 = omega arith in
    let b : suc n ≡ n + 0 + 1 = omega arith in
    ap (λ i. i ∷ path_from (suc n) ps x.next) a ∙ ap (λ i. (n + 0) ∷ path_from i ps x.next) b ∙ ap (λ (q : SegmentValue). (n + 0) ∷ path_from (n + 0 + 1) ps q.next) (sym e)
path-walk n (x ∷ ps) (suc k) p low e =
    let a : suc n + k ≡ n + suc k = omega arith in
    let b : suc k + 1 ≡ suc (k + 1) = omega arith in
    path-walk (suc n) ps k p (omega (arith, low)) e
    ∙ ap (λ i. i ∷ path_from (i + 1) (drop (k + 1) ps) p.next) a
    ∙ ap (λ j. (n + suc k) ∷ path_from (n + suc k + 1) (drop j (x ∷ ps)) p.next) (sym b)

-- each number on the way is that of a segment
pub path-within : (n : ℕ) (ps : List SegmentValue) (g : Link) → IsIn (length ps) g → AreIn ps → All (λ i. i < n + length ps) (path_from n ps g)
unfolding path_from
path-within n ps (State s) h w = All-nil (λ i. i < n + length ps)
path-within n ps (Fault at) h w = All-nil (λ i. i < n + length ps)
path-within n [] (Ahead k) h w = absurd (omega (arith, h))
path-within n (p ∷ ps) (Ahead zero) h w =
    let e : suc n + length ps ≡ n + suc (length ps) = omega arith in
    All-cons (λ i. i < n + suc (length ps)) n (path_from (suc n) ps p.next) (omega arith) (subst (λ m. All (λ i. i < m) (path_from (suc n) ps p.next)) e (path-within (suc n) ps p.next w.0 w.1))
path-within n (p ∷ ps) (Ahead (suc k)) h w =
    let e : suc n + length ps ≡ n + suc (length ps) = omega arith in
    subst (λ m. All (λ i. i < m) (path_from (suc n) ps (Ahead k))) e (path-within (suc n) ps (Ahead k) (omega (arith, h)) w.1)

first-is : (all ps : List SegmentValue) (n : ℕ) (p d : SegmentValue) → drop n all ≡ p ∷ ps → get_or all n d ≡ p
first-is all ps n p d e =
    let z : n + 0 ≡ n = omega arith in
    ap (λ i. get_or all i d) (sym z) ∙ sym (get_or-drop n all 0 d) ∙ ap (λ (qs : List SegmentValue). get_or qs 0 d) e

rest-is : (all ps : List SegmentValue) (n : ℕ) (p : SegmentValue) → drop n all ≡ p ∷ ps → drop (suc n) all ≡ ps
rest-is [] ps zero p e = absurd cc
rest-is [] ps (suc n) p e = absurd cc
rest-is (x ∷ all) ps zero p e = ap (λ (qs : List SegmentValue). drop 1 qs) e
rest-is (x ∷ all) ps (suc n) p e = rest-is all ps n p e

-- the marks of the segments on the way, one after another, are those of the track
pub path-marks : (all : List SegmentValue) (n : ℕ) (ps : List SegmentValue) (g : Link) → drop n all ≡ ps → IsIn (length ps) g → AreIn ps
    → flat_map (marks_at all) (path_from n ps g) ≡ (follow ps g).marks
unfolding path_from follow
path-marks all n ps (State s) e h w = refl
path-marks all n ps (Fault at) e h w = refl
path-marks all n [] (Ahead k) e h w = absurd (omega (arith, h))
path-marks all n (p ∷ ps) (Ahead zero) e h w =
    flat_map-cons (marks_at all) n (path_from (suc n) ps p.next)
    ∙ ap (λ (q : SegmentValue). q.marks ++ flat_map (marks_at all) (path_from (suc n) ps p.next)) (first-is all ps n p _ e)
    ∙ ap (λ (ms : List Mark). p.marks ++ ms) (path-marks all (suc n) ps p.next (rest-is all ps n p e) w.0 w.1)
path-marks all n (p ∷ ps) (Ahead (suc k)) e h w = path-marks all (suc n) ps (Ahead k) (rest-is all ps n p e) (omega (arith, h)) w.1

-- and so are their ends
pub path-ends : (all : List SegmentValue) (n : ℕ) (ps : List SegmentValue) (g : Link) → drop n all ≡ ps → IsIn (length ps) g → AreIn ps
    → flat_map (ends_at all) (path_from n ps g) ≡ (follow ps g).ends
unfolding path_from follow
path-ends all n ps (State s) e h w = refl
path-ends all n ps (Fault at) e h w = refl
path-ends all n [] (Ahead k) e h w = absurd (omega (arith, h))
path-ends all n (p ∷ ps) (Ahead zero) e h w =
    flat_map-cons (ends_at all) n (path_from (suc n) ps p.next)
    ∙ ap (λ (q : SegmentValue). q.ends ++ flat_map (ends_at all) (path_from (suc n) ps p.next)) (first-is all ps n p _ e)
    ∙ ap (λ (es : List ℕ). p.ends ++ es) (path-ends all (suc n) ps p.next (rest-is all ps n p e) w.0 w.1)
path-ends all n (p ∷ ps) (Ahead (suc k)) e h w = path-ends all (suc n) ps (Ahead k) (rest-is all ps n p e) (omega (arith, h)) w.1

pub record LeadsOut (t : Track) : Type 0 where
  pub exit : LexExit
  pub is : t ≡ done exit

-- a track that leads out has no further segment
pub leads-out : (ps : List SegmentValue) (g : Link) → ((k : ℕ) → g ≡ Ahead k → ⊥) → LeadsOut (follow ps g)
unfolding follow
leads-out ps (Ahead k) h = absurd (h k refl)
leads-out ps (State s) h = record { exit = state s; is = refl }
leads-out ps (Fault at) h = record { exit = fault at; is = refl }

pub no-path : (n : ℕ) (ps : List SegmentValue) (g : Link) → ((k : ℕ) → g ≡ Ahead k → ⊥) → path_from n ps g ≡ []
unfolding path_from
no-path n ps (Ahead k) h = absurd (h k refl)
no-path n ps (State s) h = refl
no-path n ps (Fault at) h = refl
