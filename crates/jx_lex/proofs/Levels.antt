-- How the level of open containers moves.
use Rattle.std.proofs.Common.{◌≡◌, ◌⊎◌, inl, inr, ℕ, suc, ◌+◌, ◌-◌, ◌<◌, ◌≤◌, Bool, true, false, cond, List, [], ◌∷◌, refl, ap, ◌∙◌, arith}
use Rattle.std.specs.Prelude.{◌==◌, fold}
use Rattle.std.proofs.lemmas.Bool.{cases_lt}
use Rattle.std.proofs.lemmas.Bool.Decides.{nat_tests}
use Rattle.jx_lex.specs.declared.alphabet.mark.Mark.{Mark}
use Rattle.jx_lex.specs.declared.alphabet.mark.MarkKind.{MarkKind}
use Rattle.jx_lex.specs.declared.alphabet.mark.MarkKind.TheVariants as mark
use Rattle.jx_lex.specs.Counts.{Levels, closes, closing, number_of, on_level, opening, opens, seen_there}
use Rattle.jx_lex.proofs.Counts.{number_of-more}

abbrev one_if : Bool → ℕ
one_if b = cond b 1 0

-- ---- at the lowest level, or above it

abbrev at_place : Bool → ℕ → ℕ → Levels → Levels
at_place here c v l = cond here (record l { commas = l.commas + c; values = l.values + v }) l

same_above : (here : Bool) (c v : ℕ) (l : Levels) → (at_place here c v l).above ≡ l.above
same_above true c v l = refl
same_above false c v l = refl

pub seen_none : (l : Levels) → seen_there 0 0 l ≡ l
seen_none l = by_place (l.above == 0)
  where
    by_place : (here : Bool) → at_place here 0 0 l ≡ l
    by_place true = let c : l.commas + 0 ≡ l.commas = omega arith in let v : l.values + 0 ≡ l.values = omega arith in (λ i. record l { commas = c i; values = v i })
    by_place false = refl

pub seen_twice : (a b c d : ℕ) (l : Levels) → seen_there a b (seen_there c d l) ≡ seen_there (c + a) (d + b) l
seen_twice a b c d l = ap (λ (n : ℕ). at_place (n == 0) a b (seen_there c d l)) (same_above (l.above == 0) c d l) ∙ both (l.above == 0)
  where
    both : (here : Bool) → at_place here a b (at_place here c d l) ≡ at_place here (c + a) (d + b) l
    both true =
        let e : l.commas + c + a ≡ l.commas + (c + a) = omega arith in
        let f : l.values + d + b ≡ l.values + (d + b) = omega arith in
        (λ i. record l { commas = e i; values = f i })
    both false = refl

pub seen_below : (c v : ℕ) (l : Levels) → l.above ≡ 0 → seen_there c v l ≡ record l { commas = l.commas + c; values = l.values + v }
seen_below c v l e = let here : (l.above == 0) ≡ true = grind (arith, nat_tests) in ap (λ (b : Bool). at_place b c v l) here

pub seen_above : (c v : ℕ) (l : Levels) → 0 < l.above → seen_there c v l ≡ l
seen_above c v l some = let there : (l.above == 0) ≡ false = grind (arith, nat_tests) in ap (λ (b : Bool). at_place b c v l) there

abbrev raised : Levels → Levels
raised l = record l { above = suc l.above }

pub opening_below : (l : Levels) → l.above ≡ 0 → opening l ≡ record { lowest = l.lowest; above = suc l.above; commas = l.commas + 0; values = l.values + 1 }
opening_below l e = ap raised (seen_below 0 1 l e)

pub opening_above : (l : Levels) → 0 < l.above → opening l ≡ record l { above = suc l.above }
opening_above l some = ap raised (seen_above 0 1 l some)

pub closing_below : (l : Levels) → l.above ≡ 0 → closing l ≡ record { lowest = suc l.lowest; above = 0; commas = 0; values = 0 }
closing_below l e =
    let here : (l.above == 0) ≡ true = grind (arith, nat_tests) in
    ap (λ (b : Bool). cond b (record { lowest = suc l.lowest; above = 0; commas = 0; values = 0 }) (record l { above = l.above - 1 })) here

pub closing_above : (l : Levels) → 0 < l.above → closing l ≡ record l { above = l.above - 1 }
closing_above l some =
    let there : (l.above == 0) ≡ false = grind (arith, nat_tests) in
    ap (λ (b : Bool). cond b (record { lowest = suc l.lowest; above = 0; commas = 0; values = 0 }) (record l { above = l.above - 1 })) there

-- ---- one token start

-- a bracket moves the level by one; the lowest level never rises, and as long as it stays, more is seen there
pub record Goes (l m : Levels) (opened closed : ℕ) : Type 0 where
  pub moves : m.above + l.lowest + closed ≡ l.above + m.lowest + opened
  pub falls : l.lowest ≤ m.lowest
  pub more : m.lowest ≡ l.lowest → l.values ≤ m.values

-- where it stands above the lowest level, a token start that does not fall below that counts nothing
pub record Stays (l m : Levels) : Type 0 where
  pub lowest : m.lowest ≡ l.lowest
  pub commas : m.commas ≡ l.commas
  pub values : m.values ≡ l.values

place_of : (n : ℕ) → (n ≡ 0) ⊎ (0 < n)
place_of n = by_order (cases_lt 0 n)
  where
    by_order : (0 < n) ⊎ (n ≤ 0) → (n ≡ 0) ⊎ (0 < n)
    by_order (inl some) = inr some
    by_order (inr none) = inl (omega (arith, none))

alike : (l m n : Levels) (o c : ℕ) → m ≡ n → Goes l n o c → Goes l m o c
alike l m n o c e g =
    let low = ap (λ (x : Levels). x.lowest) e in
    let above = ap (λ (x : Levels). x.above) e in
    let values = ap (λ (x : Levels). x.values) e in
    let moves = g.moves in
    let falls = g.falls in
    record {
      moves = omega (arith, low, above, moves);
      falls = omega (arith, low, falls);
      more = λ same. let more = g.more (omega (arith, low, same)) in omega (arith, values, more);
    }

same_level : (l : Levels) → Goes l l 0 0
same_level l = record { moves = refl; falls = omega arith; more = λ same. omega arith }

seen_goes : (c v : ℕ) (l : Levels) → Goes l (seen_there c v l) 0 0
seen_goes c v l = by_place (place_of l.above)
  where
    by_place : (l.above ≡ 0) ⊎ (0 < l.above) → Goes l (seen_there c v l) 0 0
    by_place (inl none) = alike l _ _ 0 0 (seen_below c v l none) (record { moves = refl; falls = omega arith; more = λ same. omega arith })
    by_place (inr some) = alike l _ _ 0 0 (seen_above c v l some) (same_level l)

opening_goes : (l : Levels) → Goes l (opening l) 1 0
opening_goes l = by_place (place_of l.above)
  where
    by_place : (l.above ≡ 0) ⊎ (0 < l.above) → Goes l (opening l) 1 0
    by_place (inl none) = alike l _ _ 1 0 (opening_below l none) (record { moves = omega arith; falls = omega arith; more = λ same. omega arith })
    by_place (inr some) = alike l _ _ 1 0 (opening_above l some) (record { moves = omega arith; falls = omega arith; more = λ same. omega arith })

closing_goes : (l : Levels) → Goes l (closing l) 0 1
closing_goes l = by_place (place_of l.above)
  where
    by_place : (l.above ≡ 0) ⊎ (0 < l.above) → Goes l (closing l) 0 1
    by_place (inl none) = alike l _ _ 0 1 (closing_below l none) (record { moves = omega (arith, none); falls = omega arith; more = λ same. absurd (omega (arith, same)) })
    by_place (inr some) = alike l _ _ 0 1 (closing_above l some) (record { moves = omega (arith, some); falls = omega arith; more = λ same. omega arith })

pub one_goes : (k : MarkKind) (l : Levels) → Goes l (on_level k l) (one_if (opens k)) (one_if (closes k))
one_goes mark.OpenArray l = opening_goes l
one_goes mark.OpenObject l = opening_goes l
one_goes mark.CloseArray l = closing_goes l
one_goes mark.CloseObject l = closing_goes l
one_goes mark.Comma l = seen_goes 1 0 l
one_goes mark.Colon l = same_level l
one_goes mark.String l = seen_goes 0 1 l
one_goes mark.Number l = seen_goes 0 1 l
one_goes mark.True l = seen_goes 0 1 l
one_goes mark.False l = seen_goes 0 1 l
one_goes mark.Null l = seen_goes 0 1 l

stays_by : (l m n : Levels) → m ≡ n → Stays l n → Stays l m
stays_by l m n e s = record { lowest = ap (λ (x : Levels). x.lowest) e ∙ s.lowest; commas = ap (λ (x : Levels). x.commas) e ∙ s.commas; values = ap (λ (x : Levels). x.values) e ∙ s.values }

stays : (l : Levels) → Stays l l
stays l = record { lowest = refl; commas = refl; values = refl }

seen_stays : (c v : ℕ) (l : Levels) → 0 < l.above → Stays l (seen_there c v l)
seen_stays c v l some = stays_by l _ _ (seen_above c v l some) (stays l)

opening_stays : (l : Levels) → 0 < l.above → Stays l (opening l)
opening_stays l some = stays_by l _ _ (opening_above l some) (record { lowest = refl; commas = refl; values = refl })

closing_stays : (l : Levels) → 0 < l.above → Stays l (closing l)
closing_stays l some = stays_by l _ _ (closing_above l some) (record { lowest = refl; commas = refl; values = refl })

pub one_stays : (k : MarkKind) (l : Levels) → 0 < l.above → Stays l (on_level k l)
one_stays mark.OpenArray l some = opening_stays l some
one_stays mark.OpenObject l some = opening_stays l some
one_stays mark.CloseArray l some = closing_stays l some
one_stays mark.CloseObject l some = closing_stays l some
one_stays mark.Comma l some = seen_stays 1 0 l some
one_stays mark.Colon l some = stays l
one_stays mark.String l some = seen_stays 0 1 l some
one_stays mark.Number l some = seen_stays 0 1 l some
one_stays mark.True l some = seen_stays 0 1 l some
one_stays mark.False l some = seen_stays 0 1 l some
one_stays mark.Null l some = seen_stays 0 1 l some

-- where the lowest level falls, nothing was seen on the new one
pub one_falls : (k : MarkKind) (l : Levels) → l.lowest < (on_level k l).lowest → (on_level k l).values ≡ 0
one_falls k l lt = by_place (place_of l.above)
  where
    no_fall : (m n : Levels) → m ≡ n → n.lowest ≡ l.lowest → l.lowest < m.lowest → m.values ≡ 0
    no_fall m n e f lt = let low = ap (λ (x : Levels). x.lowest) e in absurd (omega (arith, low, f, lt))

    one : (k : MarkKind) → l.above ≡ 0 → l.lowest < (on_level k l).lowest → (on_level k l).values ≡ 0
    one mark.OpenArray none lt = no_fall (opening l) _ (opening_below l none) refl lt
    one mark.OpenObject none lt = no_fall (opening l) _ (opening_below l none) refl lt
    one mark.CloseArray none lt = ap (λ (x : Levels). x.values) (closing_below l none)
    one mark.CloseObject none lt = ap (λ (x : Levels). x.values) (closing_below l none)
    one mark.Comma none lt = no_fall (seen_there 1 0 l) _ (seen_below 1 0 l none) refl lt
    one mark.Colon none lt = absurd (omega (arith, lt))
    one mark.String none lt = no_fall (seen_there 0 1 l) _ (seen_below 0 1 l none) refl lt
    one mark.Number none lt = no_fall (seen_there 0 1 l) _ (seen_below 0 1 l none) refl lt
    one mark.True none lt = no_fall (seen_there 0 1 l) _ (seen_below 0 1 l none) refl lt
    one mark.False none lt = no_fall (seen_there 0 1 l) _ (seen_below 0 1 l none) refl lt
    one mark.Null none lt = no_fall (seen_there 0 1 l) _ (seen_below 0 1 l none) refl lt

    by_place : (l.above ≡ 0) ⊎ (0 < l.above) → (on_level k l).values ≡ 0
    by_place (inl none) = one k none lt
    by_place (inr some) = let same = (one_stays k l some).lowest in absurd (omega (arith, same, lt))

-- ---- many token starts

abbrev pub levels_from : Levels → List Mark → Levels
levels_from l marks = fold (λ l mark. on_level mark.kind l) l marks

pub levels-go : (l : Levels) (marks : List Mark) → Goes l (levels_from l marks) (number_of opens marks) (number_of closes marks)
levels-go l [] = same_level l
levels-go l (m ∷ marks) =
    let rest = levels-go (on_level m.kind l) marks in
    let here = one_goes m.kind l in
    let c = number_of-more closes m marks in
    let o = number_of-more opens m marks in
    let rm = rest.moves in
    let hm = here.moves in
    let rf = rest.falls in
    let hf = here.falls in
    record {
      moves = omega (arith, rm, hm, c, o);
      falls = omega (arith, rf, hf);
      more = λ same.
          let rv = rest.more (omega (arith, rf, hf, same)) in
          let hv = here.more (omega (arith, rf, hf, same)) in
          omega (arith, rv, hv);
    }
