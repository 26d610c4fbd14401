-- How bytes of an array lead on, where what is kept of the open element stands behind the lines.
use Rattle.std.specs.Prelude.{slice_range}
use Rattle.std.proofs.Common.{◌≡◌, ℕ, ◌+◌, ◌<◌, ◌≤◌, List, [], ◌∷◌, ◌++◌, length, take, drop, append_assoc, length-drop, true, refl, sym, ap, subst, ◌∙◌, arith}
use Rattle.std.proofs.lemmas.List.{drop-append-le, drop_all, drop_at, length-append, take-append-drop, take-append-le, take_all, take_at}
use Rattle.jx_lex.proofs.Slices.{slice-none, slice-split}
use Rattle.jx_compact.specs.declared.place.Place.{Place}
use Rattle.jx_compact.specs.declared.place.Place.TheVariants.{Between}
use Rattle.jx_each.specs.declared.nest.Nest.{Nest}
use Rattle.jx_each.specs.declared.stand.Stage.TheVariants.{Array}
use Rattle.jx_each.specs.Machine.{Aim, Made, line_of, run}
use Rattle.jx_each.specs.inside.Stretches.{IsLed, IsPassed, IsStretch, opened, spot}
use Rattle.jx_each.proofs.Dues.{run_append}

led_none : (p : Place) (n : Nest) (out : List ℕ) → IsLed p n out [] p n out
led_none p n out = record { runs = λ aim. refl }

pub led_none_at : (p : Place) (n : Nest) (out xs : List ℕ) (at : ℕ) → IsLed p n out (slice_range xs at at) p n out
led_none_at p n out xs at = subst (λ (w : List ℕ). IsLed p n out w p n out) (sym (slice-none xs at)) (led_none p n out)

pub led_then : {p q r : Place} {n m l : Nest} {out mid longer : List ℕ} (v w : List ℕ) → IsLed p n out v q m mid → IsLed q m mid w r l longer → IsLed p n out (v ++ w) r l longer
led_then {p} {q} {r} {n} {m} {l} {out} {mid} {longer} v w x y = record {
  runs = λ aim. run_append aim (opened p n out) v w ∙ ap (λ (z : Made). run aim z w) (x.runs aim) ∙ y.runs aim;
}

pub led_slice : {p q r : Place} {n m l : Nest} {out mid longer : List ℕ} (xs : List ℕ) (a b c : ℕ) → a ≤ b → b ≤ c → IsLed p n out (slice_range xs a b) q m mid → IsLed q m mid (slice_range xs b c) r l longer
    → IsLed p n out (slice_range xs a c) r l longer
led_slice {p} {q} {r} {n} {m} {l} {out} {mid} {longer} xs a b c low high x y =
    subst (λ (w : List ℕ). IsLed p n out w r l longer) (sym (slice-split xs a b c low high)) (led_then (slice_range xs a b) (slice_range xs b c) x y)

-- they are kept behind what was kept of the element
pub led_stretch : (p q : Place) (n : Nest) (k : ℕ) (out w : List ℕ) → n.begin ≤ length out → IsStretch p n.height w q k → IsLed p n out w q (record { begin = n.begin; height = k }) (out ++ w)
led_stretch p q n k out w le s = record {
  runs = λ aim.
      s.runs aim Array true (take n.begin out) (drop n.begin out)
      ∙ ap (λ (l : List ℕ). spot q k Array true l (drop n.begin out ++ w)) (sym (take-append-le n.begin out w le))
      ∙ ap (λ (l : List ℕ). spot q k Array true (take n.begin (out ++ w)) l) (sym (drop-append-le n.begin out w le));
}

pub led_passed : (p : Place) (n : Nest) (out w : List ℕ) → IsPassed p w → IsLed p n out w p n out
led_passed p n out w x = record { runs = λ aim. x.runs aim n.height Array true (take n.begin out) (drop n.begin out) }

-- where there is something, a line ends
line_with : (l : List ℕ) → 0 < length l → line_of l ≡ l ++ 0x0a ∷ []
line_with [] lt = absurd (omega (arith, lt))
line_with (b ∷ l) lt = refl

-- a comma behind an element
pub led_border : (n m : Nest) (out : List ℕ) → n.begin < length out → n.height ≡ 1 → m.height ≡ 1 → m.begin ≡ length out + 1 → IsLed Between n out (0x2c ∷ []) Between m (out ++ 0x0a ∷ [])
led_border n m out lt one same is = record { runs = each }
  where
    longer : List ℕ
    longer = out ++ 0x0a ∷ []

    some : 0 < length (drop n.begin out)
    some = let e = length-drop n.begin out in omega (arith, lt, e)

    all : length longer ≤ m.begin
    all = let e = length-append out (0x0a ∷ []) in omega (arith, e, is)

    lines : take n.begin out ++ line_of (drop n.begin out) ≡ take m.begin longer
    lines =
        ap (λ (l : List ℕ). take n.begin out ++ l) (line_with (drop n.begin out) some)
        ∙ sym (append_assoc (take n.begin out) (drop n.begin out) (0x0a ∷ []))
        ∙ ap (λ (l : List ℕ). l ++ 0x0a ∷ []) (take-append-drop n.begin out)
        ∙ sym (take_all m.begin longer all)

    each : (aim : Aim) → run aim (opened Between n out) (0x2c ∷ []) ≡ opened Between m longer
    each aim =
        ap (λ (h : ℕ). run aim (spot Between h Array true (take n.begin out) (drop n.begin out)) (0x2c ∷ [])) one
        ∙ ap (λ (l : List ℕ). spot Between 1 Array true l []) lines
        ∙ ap (λ (l : List ℕ). spot Between 1 Array true (take m.begin longer) l) (sym (drop_all m.begin longer all))
        ∙ ap (λ (h : ℕ). spot Between h Array true (take m.begin longer) (drop m.begin longer)) (sym same)

-- behind some bytes those of a block, whose places were told otherwise
pub led_block : {p q r s t : Place} {n m l : Nest} {out mid longer : List ℕ} (xs : List ℕ) (from end at : ℕ) → from ≤ end → IsLed p n out (slice_range xs from end) q m mid → q ≡ r → t ≡ s
    → IsLed r m mid (slice_range xs end (end + at)) s l longer → IsLed p n out (slice_range xs from (end + at)) t l longer
led_block {p} {q} {r} {s} {t} {n} {m} {l} {out} {mid} {longer} xs from end at low x first last y =
    led_slice xs from end (end + at) low (omega arith) x
    (subst (λ (o : Place). IsLed o m mid (slice_range xs end (end + at)) t l longer) (sym first)
    (subst (λ (o : Place). IsLed r m mid (slice_range xs end (end + at)) o l longer) (sym last) y))

-- and the blanks behind them
pub led_block_past : {p q r s t : Place} {n m l : Nest} {out mid longer : List ℕ} (xs : List ℕ) (from end at past : ℕ) → from ≤ end → IsLed p n out (slice_range xs from end) q m mid → q ≡ r → t ≡ s
    → IsLed r m mid (slice_range xs end (end + at)) s l longer → end + at ≤ past → IsPassed t (slice_range xs (end + at) past) → IsLed p n out (slice_range xs from past) t l longer
led_block_past {p} {q} {r} {s} {t} {n} {m} {l} {out} {mid} {longer} xs from end at past low x first last y high passed =
    led_slice xs from (end + at) past (omega (arith, low)) high (led_block xs from end at low x first last y) (led_passed t l longer (slice_range xs (end + at) past) passed)

-- what was kept of the element is moved behind the lines, and back again
pub led_joined : {q : Place} {n m : Nest} {longer : List ℕ} (p : Place) (lines part joined w : List ℕ) {after rest : List ℕ} → n.begin ≡ length lines → joined ≡ lines ++ part
    → IsLed p n joined w q m longer → after ≡ take m.begin longer → rest ≡ drop m.begin longer
    → (aim : Aim) → run aim (spot p n.height Array true lines part) w ≡ spot q m.height Array true after rest
led_joined {q} {n} {m} {longer} p lines part joined w {after} {rest} begins is x lines_are rest_is aim =
    ap (λ (l : List ℕ). run aim (spot p n.height Array true l part) w) (sym front)
    ∙ ap (λ (l : List ℕ). run aim (spot p n.height Array true (take n.begin joined) l) w) (sym behind)
    ∙ x.runs aim
    ∙ ap (λ (l : List ℕ). spot q m.height Array true l (drop m.begin longer)) (sym lines_are)
    ∙ ap (λ (l : List ℕ). spot q m.height Array true after l) (sym rest_is)
  where
    front : take n.begin joined ≡ lines
    front = ap (take n.begin) is ∙ take_at lines part n.begin (sym begins)

    behind : drop n.begin joined ≡ part
    behind = ap (drop n.begin) is ∙ drop_at lines part n.begin (sym begins)
