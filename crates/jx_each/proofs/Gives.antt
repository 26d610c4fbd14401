-- What lines a stretch of a text gives: those of the elements whose comma or bracket stands in it.
use Rattle.std.specs.Prelude.{if◌then◌else◌, nat_lt, filter, flat_map}
use Rattle.std.proofs.Common.{◌≡◌, ℕ, zero, suc, ◌+◌, ◌<◌, ◌≤◌, List, [], ◌∷◌, ◌++◌, length, take, append_assoc, Bool, true, false, refl, sym, ap, subst, ◌∙◌, arith, cond}
use Rattle.std.proofs.lemmas.Bool.{le-ltb, lt-ltb}
use Rattle.std.proofs.lemmas.List.{append-nil}
use Rattle.jx_compact.specs.declared.place.Place.{Place}
use Rattle.jx_compact.specs.declared.place.Place.TheVariants.{Between}
use Rattle.jx_compact.specs.Compact.{compact, compact_from, kept, next, place_behind}
use Rattle.jx_each.specs.declared.content.LineContent.{LineContent}
use Rattle.jx_each.specs.declared.sign.Turn.{Turn}
use Rattle.jx_each.specs.declared.sign.Turn.TheVariants.{Stay}
use Rattle.jx_each.specs.declared.sign.Turn.TheVariants as turns
use Rattle.jx_each.specs.declared.stand.Stage.{Stage}
use Rattle.jx_each.specs.Turns.{turn_at, height_next, height_behind}
use Rattle.jx_each.specs.declared.stand.Stage.TheVariants.{Ahead, Elements, Members, Array, Object, Name, Pair, Names, Empties, Over}
use Rattle.jx_each.specs.Machine.{Aim, Made, step, run, stage_next, stand_by, lines_next, part_next}
use Rattle.jx_each.specs.Due.{Element, behind, element_line, lines_before}
use Rattle.jx_each.proofs.Bytes.{StaysIn}
use Rattle.jx_each.proofs.Pieces.{Piece, Gap}

-- the comma or the bracket behind each stands at an offset, or further on
abbrev pub AllBehind : List ℕ → ℕ → List Element → Type 0
AllBehind text at [] = Unit {0}
AllBehind text at (t ∷ ts) = (at ≤ behind text t) × AllBehind text at ts

-- of the bytes from an offset on, any number give the lines of those whose comma or bracket stands among them
pub record Gives (text : List ℕ) (aim : Aim) (s : Made) (at : ℕ) (bytes : List ℕ) (ts : List Element) (r : Stage) : Type 0 where
  pub later : AllBehind text at ts
  pub gives : (n : ℕ) → (run aim s (take n bytes)).lines ≡ s.lines ++ lines_before aim.content text (at + n) ts
  pub stage : (run aim s bytes).stand.stage ≡ r

earlier : (text : List ℕ) (at : ℕ) (ts : List Element) → AllBehind text (suc at) ts → AllBehind text at ts
earlier text at [] h = tt
earlier text at (t ∷ ts) h = (let le : suc at ≤ behind text t = h.0 in omega (arith, le), earlier text at ts h.1)

none_before : (content : LineContent) (text : List ℕ) (k at : ℕ) (ts : List Element) → k ≤ at → AllBehind text at ts → lines_before content text k ts ≡ []
none_before content text k at [] le h = refl
none_before content text k at (t ∷ ts) le h =
    let far : at ≤ behind text t = h.0 in
    let e : nat_lt (behind text t) k ≡ false = le-ltb (behind text t) k (omega (arith, far, le)) in
    ap (λ (m : Bool). flat_map (element_line content text) (cond m (t ∷ filter (λ (x : Element). nat_lt (behind text x) k) ts) (filter (λ (x : Element). nat_lt (behind text x) k) ts))) e
    ∙ none_before content text k at ts le h.1

pub first_before : (content : LineContent) (text : List ℕ) (k : ℕ) (t : Element) (ts : List Element) → behind text t < k → lines_before content text k (t ∷ ts) ≡ element_line content text t ++ lines_before content text k ts
first_before content text k t ts lt =
    let e : nat_lt (behind text t) k ≡ true = lt-ltb (behind text t) k lt in
    ap (λ (m : Bool). flat_map (element_line content text) (cond m (t ∷ filter (λ (x : Element). nat_lt (behind text x) k) ts) (filter (λ (x : Element). nat_lt (behind text x) k) ts))) e

take_none : (n : ℕ) → take n (let e : List ℕ = [] in e) ≡ []
take_none zero = refl
take_none (suc n) = refl

-- of no byte
none_yet : (content : LineContent) (text : List ℕ) (at : ℕ) (ts : List Element) (lines : List ℕ) → AllBehind text at ts → lines ≡ lines ++ lines_before content text (at + 0) ts
none_yet content text at ts lines h =
    sym (append-nil lines) ∙ ap (λ (x : List ℕ). lines ++ x) (sym (none_before content text (at + 0) at ts (omega arith) h))

pub gives_end : (text : List ℕ) (aim : Aim) (s : Made) (at : ℕ) → Gives text aim s at [] [] s.stand.stage
gives_end text aim s at = record {
  later = tt;
  gives = λ n. ap (λ (x : List ℕ). (run aim s x).lines) (take_none n) ∙ sym (append-nil s.lines);
  stage = refl;
}

-- a byte that ends no line
pub gives_step : (text : List ℕ) (aim : Aim) (s : Made) (b at : ℕ) (bytes : List ℕ) (ts : List Element) (r : Stage) → (step aim s b).lines ≡ s.lines
    → Gives text aim (step aim s b) (suc at) bytes ts r → Gives text aim s at (b ∷ bytes) ts r
gives_step text aim s b at bytes ts r same g = record { later = earlier text at ts g.later; gives = each; stage = g.stage }
  where
    each : (n : ℕ) → (run aim s (take n (b ∷ bytes))).lines ≡ s.lines ++ lines_before aim.content text (at + n) ts
    each zero = none_yet aim.content text at ts s.lines (earlier text at ts g.later)
    each (suc n) =
        g.gives n ∙ ap (λ (x : List ℕ). x ++ lines_before aim.content text (suc at + n) ts) same
        ∙ ap (λ (k : ℕ). s.lines ++ lines_before aim.content text k ts) (let e : suc at + n ≡ at + suc n = omega arith in e)

-- a byte that ends the line of an element
pub gives_cut : (text : List ℕ) (aim : Aim) (s : Made) (b at : ℕ) (bytes : List ℕ) (t : Element) (ts : List Element) (r : Stage) → (step aim s b).lines ≡ s.lines ++ element_line aim.content text t
    → behind text t ≡ at → Gives text aim (step aim s b) (suc at) bytes ts r → Gives text aim s at (b ∷ bytes) (t ∷ ts) r
gives_cut text aim s b at bytes t ts r more here g = record { later = all; gives = each; stage = g.stage }
  where
    all : AllBehind text at (t ∷ ts)
    all = (omega (arith, here), earlier text at ts g.later)

    each : (n : ℕ) → (run aim s (take n (b ∷ bytes))).lines ≡ s.lines ++ lines_before aim.content text (at + n) (t ∷ ts)
    each zero = none_yet aim.content text at (t ∷ ts) s.lines all
    each (suc n) =
        g.gives n ∙ ap (λ (x : List ℕ). x ++ lines_before aim.content text (suc at + n) ts) more
        ∙ append_assoc s.lines (element_line aim.content text t) (lines_before aim.content text (suc at + n) ts)
        ∙ ap (λ (k : ℕ). s.lines ++ (element_line aim.content text t ++ lines_before aim.content text k ts)) (let e : suc at + n ≡ at + suc n = omega arith in e)
        ∙ ap (λ (x : List ℕ). s.lines ++ x) (sym (first_before aim.content text (at + suc n) t ts (let lt : behind text t < at + suc n = omega (arith, here) in lt)))

-- ---- bytes that stay

abbrev pub at_place : Place → ℕ → Stage → Bool → List ℕ → List ℕ → Made
at_place p h r takes lines part = record { stand = record { place = p; height = h; stage = r; takes = takes }; lines = lines; part = part }

abbrev pub made : ℕ → Stage → Bool → List ℕ → List ℕ → Made
made h r takes lines part = at_place Between h r takes lines part

-- what is kept of some bytes
abbrev pub taken : Bool → Place → List ℕ → List ℕ
taken takes p w = if takes then compact_from p w else []

abbrev stepped : Aim → Turn → Made → ℕ → Made
stepped aim turn s b = record {
  stand = stand_by aim turn s.stand s.part b;
  lines = lines_next s.stand.stage turn s.lines s.part;
  part = part_next turn s.stand (stand_by aim turn s.stand s.part b).stage s.part b;
}

-- a byte that stays changes no stage
stays_stage : (aim : Aim) (stage : Stage) (name : List ℕ) → stage_next aim stage name Stay ≡ stage
stays_stage aim (Ahead level) name = refl
stays_stage aim (Elements level n) name = refl
stays_stage aim (Members level) name = refl
stays_stage aim Array name = refl
stays_stage aim Object name = refl
stays_stage aim Name name = refl
stays_stage aim Pair name = refl
stays_stage aim Names name = refl
stays_stage aim Empties name = refl
stays_stage aim Over name = refl

abbrev pub kept_by : Bool → Place → ℕ → List ℕ
kept_by takes p b = if takes then kept p b else []

pub stay_step : (aim : Aim) (p : Place) (h : ℕ) (r : Stage) (takes : Bool) (lines part : List ℕ) (b : ℕ) → turn_at p h b ≡ Stay
    → step aim (at_place p h r takes lines part) b ≡ at_place (next p b) (height_next p h b) r takes lines (part ++ kept_by takes p b)
stay_step aim p h r takes lines part b e =
    ap (λ (t : Turn). stepped aim t (at_place p h r takes lines part) b) e
    ∙ ap (λ (x : Stage). at_place (next p b) (height_next p h b) x takes lines (part ++ kept_by takes p b)) (stays_stage aim r part)

taken_none : (takes : Bool) (p : Place) → taken takes p [] ≡ []
taken_none true p = refl
taken_none false p = refl

taken_more : (takes : Bool) (p : Place) (part : List ℕ) (b : ℕ) (w : List ℕ) → part ++ taken takes p (b ∷ w) ≡ (part ++ kept_by takes p b) ++ taken takes (next p b) w
taken_more true p part b w = sym (append_assoc part (kept p b) (compact_from (next p b) w))
taken_more false p part b w = sym (append-nil (part ++ []))

over_stays : (text : List ℕ) (aim : Aim) (r : Stage) (takes : Bool) (lines : List ℕ) (bytes : List ℕ) (ts : List Element) (to : Stage) (p : Place) (h : ℕ) (part w : List ℕ) (at : ℕ) → StaysIn p h w
    → Gives text aim (at_place (place_behind p w) (height_behind p h w) r takes lines (part ++ taken takes p w)) (at + length w) bytes ts to
    → Gives text aim (at_place p h r takes lines part) at (w ++ bytes) ts to
over_stays text aim r takes lines bytes ts to p h part [] at stays g =
    subst (λ (k : ℕ). Gives text aim (at_place p h r takes lines part) k bytes ts to) (let e : at + length (let n : List ℕ = [] in n) ≡ at = omega arith in e)
    (subst (λ (x : List ℕ). Gives text aim (at_place p h r takes lines x) (at + length (let n : List ℕ = [] in n)) bytes ts to) (ap (λ (x : List ℕ). part ++ x) (taken_none takes p) ∙ append-nil part) g)
over_stays text aim r takes lines bytes ts to p h part (b ∷ w) at stays g =
    let s : Made = at_place p h r takes lines part in
    let t : Made = at_place (next p b) (height_next p h b) r takes lines (part ++ kept_by takes p b) in
    let e : step aim s b ≡ t = stay_step aim p h r takes lines part b stays.0 in
    let more : Gives text aim (at_place (place_behind (next p b) w) (height_behind (next p b) (height_next p h b) w) r takes lines ((part ++ kept_by takes p b) ++ taken takes (next p b) w)) (suc at + length w) bytes ts to =
    subst (λ (k : ℕ). Gives text aim (at_place (place_behind (next p b) w) (height_behind (next p b) (height_next p h b) w) r takes lines ((part ++ kept_by takes p b) ++ taken takes (next p b) w)) k bytes ts to)
    (let e : at + suc (length w) ≡ suc at + length w = omega arith in e)
    (subst (λ (x : List ℕ). Gives text aim (at_place (place_behind (next p b) w) (height_behind (next p b) (height_next p h b) w) r takes lines x) (at + suc (length w)) bytes ts to) (taken_more takes p part b w) g) in
    let rest : Gives text aim t (suc at) (w ++ bytes) ts to = over_stays text aim r takes lines bytes ts to (next p b) (height_next p h b) (part ++ kept_by takes p b) w (suc at) stays.1 more in
    gives_step text aim s b at (w ++ bytes) ts to (ap (λ (m : Made). m.lines) e) (subst (λ (m : Made). Gives text aim m (suc at) (w ++ bytes) ts to) (sym e) rest)

-- a stretch that opens and closes the same containers
pub over_piece : (text : List ℕ) (aim : Aim) (h : ℕ) (r : Stage) (takes : Bool) (lines part : List ℕ) (ts : List Element) (to : Stage) {low i j : ℕ} {t u : List ℕ} (p : Piece low i t j u) → low ≤ h
    → Gives text aim (made h r takes lines (part ++ taken takes Between p.w)) j u ts to → Gives text aim (made h r takes lines part) i t ts to
over_piece text aim h r takes lines part ts to {i = i} {j = j} {u = u} p le g =
    subst (λ (x : List ℕ). Gives text aim (made h r takes lines part) i x ts to) (sym p.whole)
    (over_stays text aim r takes lines u ts to Between h part p.w i (p.sits.stays h le)
    (subst (λ (k : ℕ). Gives text aim (at_place (place_behind Between p.w) (height_behind Between h p.w) r takes lines (part ++ taken takes Between p.w)) k u ts to) p.end
    (subst (λ (q : Place). Gives text aim (at_place q (height_behind Between h p.w) r takes lines (part ++ taken takes Between p.w)) j u ts to) (sym p.sits.place)
    (subst (λ (n : ℕ). Gives text aim (at_place Between n r takes lines (part ++ taken takes Between p.w)) j u ts to) (sym (p.sits.height h le)) g))))

taken_gap : (takes : Bool) (w : List ℕ) → compact w ≡ [] → taken takes Between w ≡ []
taken_gap true w e = e
taken_gap false w e = refl

pub over_gap : (text : List ℕ) (aim : Aim) (h : ℕ) (r : Stage) (takes : Bool) (lines part : List ℕ) (ts : List Element) (to : Stage) {i j : ℕ} {t u : List ℕ} → Gap i t j u
    → Gives text aim (made h r takes lines part) j u ts to → Gives text aim (made h r takes lines part) i t ts to
over_gap text aim h r takes lines part ts to {j = j} {u = u} gap g =
    over_piece text aim h r takes lines part ts to gap.piece (omega arith)
    (subst (λ (x : List ℕ). Gives text aim (made h r takes lines x) j u ts to) (sym (ap (λ (x : List ℕ). part ++ x) (taken_gap takes gap.piece.w gap.nothing) ∙ append-nil part)) g)

-- a stretch where no element may stand
pub over_name : (text : List ℕ) (aim : Aim) (h : ℕ) (r : Stage) (lines part : List ℕ) (ts : List Element) (to : Stage) {low i j : ℕ} {t u : List ℕ} → Piece low i t j u → low ≤ h
    → Gives text aim (made h r false lines part) j u ts to → Gives text aim (made h r false lines part) i t ts to
over_name text aim h r lines part ts to {j = j} {u = u} p le g =
    over_piece text aim h r false lines part ts to p le (subst (λ (x : List ℕ). Gives text aim (made h r false lines x) j u ts to) (sym (append-nil part)) g)

-- ---- behind the container

none_more : (turn : Turn) (lines part : List ℕ) → lines_next Over turn lines part ≡ lines
none_more turns.EnterArray lines part = refl
none_more turns.EnterObject lines part = refl
none_more turns.Next lines part = refl
none_more turns.Value lines part = refl
none_more turns.Leave lines part = refl
none_more turns.Past lines part = refl
none_more turns.Stay lines part = refl

over_lines : (aim : Aim) (bytes : List ℕ) (p : Place) (h : ℕ) (takes : Bool) (lines part : List ℕ) → (run aim (at_place p h Over takes lines part) bytes).lines ≡ lines
over_lines aim [] p h takes lines part = refl
over_lines aim (b ∷ bytes) p h takes lines part =
    let s : Made = step aim (at_place p h Over takes lines part) b in
    over_lines aim bytes s.stand.place s.stand.height s.stand.takes s.lines s.part ∙ none_more (turn_at p h b) lines part

over_stage : (aim : Aim) (bytes : List ℕ) (p : Place) (h : ℕ) (takes : Bool) (lines part : List ℕ) → (run aim (at_place p h Over takes lines part) bytes).stand.stage ≡ Over
over_stage aim [] p h takes lines part = refl
over_stage aim (b ∷ bytes) p h takes lines part =
    let s : Made = step aim (at_place p h Over takes lines part) b in
    over_stage aim bytes s.stand.place s.stand.height s.stand.takes s.lines s.part

-- nothing is made any more
pub gives_over : (text : List ℕ) (aim : Aim) (h : ℕ) (takes : Bool) (lines part : List ℕ) (at : ℕ) (bytes : List ℕ) → Gives text aim (made h Over takes lines part) at bytes [] Over
gives_over text aim h takes lines part at bytes = record {
  later = tt;
  gives = λ n. over_lines aim (take n bytes) Between h takes lines part ∙ sym (append-nil lines);
  stage = over_stage aim bytes Between h takes lines part;
}
