-- How stretches follow one another.
use Rattle.std.specs.Prelude.{if◌then◌else◌, slice_range}
use Rattle.std.proofs.Common.{◌≡◌, ℕ, ◌+◌, ◌-◌, ◌<◌, ◌≤◌, List, [], ◌∷◌, ◌++◌, length, take, drop, get_or, append_assoc, Bool, true, false, refl, sym, ap, subst, ◌∙◌, arith}
use Rattle.std.proofs.lemmas.List.{append-nil, drop_more, length-append}
use Rattle.std.proofs.lemmas.List.Folds.{drop_split}
use Rattle.std.proofs.Math.Seq.{take-append-add}
use Rattle.jx_lex.proofs.Running.{take-again}
use Rattle.jx_lex.proofs.Slices.{slice-length, slice-more, slice-none, slice-split}
use Rattle.jx_compact.specs.declared.place.Place.{Place}
use Rattle.jx_compact.specs.declared.place.Place.TheVariants.{Between, Inside}
use Rattle.jx_compact.specs.Compact.{is_kept, kept, next}
use Rattle.jx_each.specs.declared.sign.Turn.TheVariants.{Stay}
use Rattle.jx_each.specs.declared.stand.Stage.{Stage}
use Rattle.jx_each.specs.declared.stand.LineStand.{LineStand}
use Rattle.jx_each.specs.Machine.{Aim, Made, run, step}
use Rattle.jx_each.specs.declared.sign.Sign.{Sign}
use Rattle.jx_each.specs.Turns.{sign_of, turn_at, turn_by, turned, height_next}
use Rattle.jx_each.specs.inside.Runs.{AreIn, is_blank, is_char, is_deep, is_flat}
use Rattle.jx_each.specs.inside.Stretches.{IsPassed, IsStretch, spot}
use Rattle.jx_each.proofs.Bytes.{turn_other}
use Rattle.jx_each.proofs.Dues.{run_append}
use Rattle.jx_each.proofs.Gives.{stay_step}
use Rattle.jx_each.proofs.Keeping.{Keeps, Leaves, blank_leaves, char_keeps, deep_keeps, flat_keeps}

part_none : (takes : Bool) (part : List ℕ) → part ≡ part ++ (if takes then [] else [])
part_none true part = sym (append-nil part)
part_none false part = sym (append-nil part)

pub no_stretch : (p : Place) (h : ℕ) → IsStretch p h [] p h
no_stretch p h = record { runs = λ aim stage takes lines part. ap (spot p h stage takes lines) (part_none takes part) }

pub parts_join : (takes : Bool) (part v w : List ℕ) → (part ++ (if takes then v else [])) ++ (if takes then w else []) ≡ part ++ (if takes then v ++ w else [])
parts_join true part v w = append_assoc part v w
parts_join false part v w = append-nil (part ++ [])

pub then_stretch : {p q r : Place} {h k l : ℕ} (v w : List ℕ) → IsStretch p h v q k → IsStretch q k w r l → IsStretch p h (v ++ w) r l
then_stretch {p} {q} {r} {h} {k} {l} v w x y = record {
  runs = λ aim stage takes lines part.
      run_append aim (spot p h stage takes lines part) v w
      ∙ ap (λ (m : Made). run aim m w) (x.runs aim stage takes lines part)
      ∙ y.runs aim stage takes lines (part ++ (if takes then v else []))
      ∙ ap (spot r l stage takes lines) (parts_join takes part v w);
}

-- a byte that is kept and turns nothing
pub one_stretch : (p : Place) (h b : ℕ) → turn_at p h b ≡ Stay → is_kept p b ≡ true → IsStretch p h (b ∷ []) (next p b) (height_next p h b)
one_stretch p h b stay keeps = record {
  runs = λ aim stage takes lines part.
      stay_step aim p h stage takes lines part b stay
      ∙ ap (λ (m : Bool). spot (next p b) (height_next p h b) stage takes lines (part ++ (if takes then (if m then b ∷ [] else []) else []))) keeps;
}

-- ---- runs of bytes that keep the place and the height

one_keeps : (p : Place) (h b : ℕ) → Keeps p h b → IsStretch p h (b ∷ []) p h
one_keeps p h b k =
    subst (λ (q : Place). IsStretch p h (b ∷ []) q h) k.place
    (subst (λ (n : ℕ). IsStretch p h (b ∷ []) (next p b) n) k.height (one_stretch p h b k.turn k.stays))

run_stretch : (set : ℕ → Bool) (p : Place) (h : ℕ) → ((b : ℕ) → set b ≡ true → Keeps p h b) → (w : List ℕ) → AreIn set w → IsStretch p h w p h
run_stretch set p h keeps [] i = no_stretch p h
run_stretch set p h keeps (b ∷ w) i = then_stretch (b ∷ []) w (one_keeps p h b (keeps b i.0)) (run_stretch set p h keeps w i.1)

pub chars_stretch : (p : Place) (h : ℕ) (w : List ℕ) → p ≡ Inside → AreIn is_char w → IsStretch p h w p h
chars_stretch p h w is i = subst (λ (q : Place). IsStretch q h w q h) (sym is) (run_stretch is_char Inside h (char_keeps h) w i)

pub deep_stretch : (p : Place) (h : ℕ) (w : List ℕ) → p ≡ Between → 1 < h → AreIn is_deep w → IsStretch p h w p h
deep_stretch p h w is high i = subst (λ (q : Place). IsStretch q h w q h) (sym is) (run_stretch is_deep Between h (λ b d. deep_keeps h b high d) w i)

pub flat_stretch : (p : Place) (h : ℕ) (w : List ℕ) → p ≡ Between → AreIn is_flat w → IsStretch p h w p h
flat_stretch p h w is i = subst (λ (q : Place). IsStretch q h w q h) (sym is) (run_stretch is_flat Between h (flat_keeps h) w i)

pub none_stretch : (p : Place) (h : ℕ) (xs : List ℕ) (from : ℕ) → IsStretch p h (slice_range xs from from) p h
none_stretch p h xs from = subst (λ (w : List ℕ). IsStretch p h w p h) (sym (slice-none xs from)) (no_stretch p h)

-- ---- blanks

kept_none : (takes : Bool) (part : List ℕ) → part ++ (if takes then [] else []) ≡ part
kept_none true part = append-nil part
kept_none false part = append-nil part

one_passed : (b : ℕ) → Leaves b → IsPassed Between (b ∷ [])
one_passed b l = record {
  runs = λ aim height stage takes lines part.
      stay_step aim Between height stage takes lines part b (ap (turn_by height) l.sign_is ∙ turn_other height)
      ∙ ap (λ (q : Place). spot q (turned height (sign_of b)) stage takes lines (part ++ (if takes then kept Between b else []))) l.place
      ∙ ap (λ (s : Sign). spot Between (turned height s) stage takes lines (part ++ (if takes then kept Between b else []))) l.sign_is
      ∙ ap (λ (x : List ℕ). spot Between height stage takes lines (part ++ (if takes then x else []))) l.none
      ∙ ap (spot Between height stage takes lines) (kept_none takes part);
}

blanks_between : (w : List ℕ) → AreIn is_blank w → IsPassed Between w
blanks_between [] i = record { runs = λ aim height stage takes lines part. refl }
blanks_between (b ∷ w) i =
    let first : IsPassed Between (b ∷ []) = one_passed b (blank_leaves b i.0) in
    let rest : IsPassed Between w = blanks_between w i.1 in
    record {
      runs = λ aim height stage takes lines part.
          ap (λ (m : Made). run aim m w) (first.runs aim height stage takes lines part)
          ∙ rest.runs aim height stage takes lines part;
    }

pub blanks_passed : (p : Place) (w : List ℕ) → p ≡ Between → AreIn is_blank w → IsPassed p w
blanks_passed p w is i = subst (λ (q : Place). IsPassed q w) (sym is) (blanks_between w i)

pub none_passed : (p : Place) (xs : List ℕ) (from : ℕ) → IsPassed p (slice_range xs from from)
none_passed p xs from = subst (λ (w : List ℕ). IsPassed p w) (sym (slice-none xs from)) (record { runs = λ aim height stage takes lines part. refl })

-- ---- steps of loops

pub more_stretch : {p q r : Place} {h k l : ℕ} (xs : List ℕ) (from i j : ℕ) → from ≤ i → i ≤ j → IsStretch p h (slice_range xs from i) q k → IsStretch q k (slice_range xs i j) r l → IsStretch p h (slice_range xs from j) r l
more_stretch {p} {q} {r} {h} {k} {l} xs from i j low high x y =
    subst (λ (w : List ℕ). IsStretch p h w r l) (sym (slice-split xs from i j low high)) (then_stretch (slice_range xs from i) (slice_range xs i j) x y)

pub push_stretch : {p q : Place} {h k : ℕ} (xs : List ℕ) (from i : ℕ) → from ≤ i → i < length xs → turn_at q k (get_or xs i 0) ≡ Stay → is_kept q (get_or xs i 0) ≡ true → IsStretch p h (slice_range xs from i) q k
    → IsStretch p h (slice_range xs from (i + 1)) (next q (get_or xs i 0)) (height_next q k (get_or xs i 0))
push_stretch {p} {q} {h} {k} xs from i low lt stay keeps x =
    let b : ℕ = get_or xs i 0 in
    subst (λ (w : List ℕ). IsStretch p h w (next q b) (height_next q k b)) (sym (slice-more xs from i 0 low lt)) (then_stretch (slice_range xs from i) (b ∷ []) x (one_stretch q k b stay keeps))

pub run_on : (aim : Aim) (p q : Place) (h k : ℕ) (stage : Stage) (takes : Bool) (lines part longer xs : List ℕ) (at end : ℕ) (all : Made) → at ≤ end → IsStretch p h (slice_range xs at end) q k
    → longer ≡ part ++ (if takes then slice_range xs at end else [])
    → run aim (spot p h stage takes lines part) (drop at xs) ≡ all
    → run aim (spot q k stage takes lines longer) (drop end xs) ≡ all
run_on aim p q h k stage takes lines part longer xs at end all le x e made =
    let m : Made = spot p h stage takes lines part in
    ap (λ (l : List ℕ). run aim (spot q k stage takes lines l) (drop end xs)) e
    ∙ ap (λ (z : Made). run aim z (drop end xs)) (sym (x.runs aim stage takes lines part))
    ∙ sym (run_append aim m (slice_range xs at end) (drop end xs))
    ∙ ap (run aim m) (sym (drop_split xs at end le))
    ∙ made

pub pass_on : (aim : Aim) (p : Place) (h : ℕ) (stage : Stage) (takes : Bool) (lines part xs : List ℕ) (at end : ℕ) (all : Made) → at ≤ end → IsPassed p (slice_range xs at end)
    → run aim (spot p h stage takes lines part) (drop at xs) ≡ all
    → run aim (spot p h stage takes lines part) (drop end xs) ≡ all
pass_on aim p h stage takes lines part xs at end all le x made =
    let m : Made = spot p h stage takes lines part in
    ap (λ (z : Made). run aim z (drop end xs)) (sym (x.runs aim h stage takes lines part))
    ∙ sym (run_append aim m (slice_range xs at end) (drop end xs))
    ∙ ap (run aim m) (sym (drop_split xs at end le))
    ∙ made

pub run_byte : (aim : Aim) (s t : LineStand) (lines part longer rest xs : List ℕ) (i b : ℕ) (all : Made) → i < length xs → b ≡ get_or xs i 0
    → record { stand = t; lines = longer; part = rest } ≡ step aim (record { stand = s; lines = lines; part = part }) b
    → run aim (record { stand = s; lines = lines; part = part }) (drop i xs) ≡ all
    → run aim (record { stand = t; lines = longer; part = rest }) (drop (i + 1) xs) ≡ all
run_byte aim s t lines part longer rest xs i b all lt is made h =
    let m : Made = record { stand = s; lines = lines; part = part } in
    ap (λ (x : Made). run aim x (drop (i + 1) xs)) made
    ∙ ap (λ (c : ℕ). run aim (step aim m c) (drop (i + 1) xs)) is
    ∙ ap (run aim m) (sym (drop_more xs i 0 lt))
    ∙ h

-- a byte, and the run behind it
pub near_on : (p q : Place) (h k : ℕ) (xs : List ℕ) (from end : ℕ) → from < length xs → from + 1 ≤ end → turn_at p h (get_or xs from 0) ≡ Stay → is_kept p (get_or xs from 0) ≡ true
    → q ≡ next p (get_or xs from 0) → k ≡ height_next p h (get_or xs from 0) → IsStretch q k (slice_range xs (from + 1) end) q k → IsStretch p h (slice_range xs from end) q k
near_on p q h k xs from end lt le turn keeps to high x =
    more_stretch xs from (from + 1) end (omega arith) le
    (subst (λ (r : Place). IsStretch p h (slice_range xs from (from + 1)) r k) (sym to)
    (subst (λ (n : ℕ). IsStretch p h (slice_range xs from (from + 1)) (next p (get_or xs from 0)) n) (sym high)
    (push_stretch xs from from (omega arith) lt turn keeps (none_stretch p h xs from)))) x

-- a stretch, and the blanks behind it
pub made_on : (aim : Aim) (s t : LineStand) (p : Place) (k : ℕ) (lines part longer xs : List ℕ) (at end next : ℕ) (all : Made) → t ≡ record { place = p; height = k; stage = s.stage; takes = s.takes }
    → at ≤ end → end ≤ next → IsStretch s.place s.height (slice_range xs at end) p k → longer ≡ part ++ (if s.takes then slice_range xs at end else []) → IsPassed p (slice_range xs end next)
    → run aim (record { stand = s; lines = lines; part = part }) (drop at xs) ≡ all
    → run aim (record { stand = t; lines = lines; part = longer }) (drop next xs) ≡ all
made_on aim s t p k lines part longer xs at end next all is low high x pushed passed made =
    ap (λ (u : LineStand). run aim (record { stand = u; lines = lines; part = longer }) (drop next xs)) is
    ∙ pass_on aim p k s.stage s.takes lines longer xs end next all high passed
    (run_on aim s.place p s.height k s.stage s.takes lines part longer xs at end all low x pushed made)

-- ---- copies that are cut back

pub cut_back : (part xs longer cut : List ℕ) (from to len : ℕ) → from ≤ to → to ≤ from + 64 → from + 64 ≤ length xs → longer ≡ part ++ slice_range xs from (from + 64) → len ≡ length longer
    → cut ≡ take (len - (from + 64 - to)) longer → cut ≡ part ++ slice_range xs from to
cut_back part xs longer cut from to len low high room is counted h =
    let long : from + 64 ≡ from + length (slice_range xs from (from + 64)) = slice-length xs from (from + 64) (omega arith) room in
    let both : length longer ≡ length part + length (slice_range xs from (from + 64)) = ap length is ∙ length-append part (slice_range xs from (from + 64)) in
    let n : len - (from + 64 - to) ≡ length part + (to - from) = omega (arith, low, high, long, both, counted) in
    let span : from + 64 - from ≡ 64 = omega arith in
    h
    ∙ ap (λ (l : List ℕ). take (len - (from + 64 - to)) l) is
    ∙ ap (λ (m : ℕ). take m (part ++ slice_range xs from (from + 64))) n
    ∙ take-append-add part (slice_range xs from (from + 64)) (to - from)
    ∙ ap (λ (m : ℕ). part ++ take (to - from) (take m (drop from xs))) span
    ∙ ap (λ (l : List ℕ). part ++ l) (take-again (to - from) 64 (drop from xs) (omega (arith, low, high)))
