use Rattle.std.proofs.Common.{◌≡◌, ◌∙◌, ◌+◌, ◌<◌, ◌≤◌, ◌*◌, ◌/◌, ◌%◌, ◌^◌, ap, refl, subst, sym, ℕ, suc, Bool, true, false, not, bit_and, bit_or, arith, get_or}
use Rattle.std.specs.Prelude.{◌&&◌, ◌||◌}
use Rattle.std.proofs.lemmas.Nat.{or_lt, and_le_l}
use Rattle.jx_lex.specs.inside.Bits.{bit}
use Rattle.jx_lex.proofs.Bits.{bit-and, bit-down, bit-not, bit-or}
use Rattle.jx_block.specs.inside.Numbers.{AreClasses}
use Rattle.jx_block.specs.inside.Planes.{is_stop}
use Rattle.jx_block.proofs.NumberRuns.{whole_number}
use Rattle.jx_block.proofs.Words.{low_kept, left_none}
use Rattle.jx_block.proofs.WordsTell.{block_byte, but, and_but, neither, shifted, flip}
use Rattle.jx_block.proofs.numbers.wrong_number.Goals as goal

-- of a last byte that is no digit no bit is left
last_of : (a b d : Bool) → ((a && not b) && not d) ≡ false → a ≡ true → b ≡ false → d ≡ true
last_of true false true none set over = refl
last_of true false false none set over = absurd cc
last_of true true d none set over = absurd cc
last_of false b d none set over = absurd cc

-- what stands behind a byte of a number
next_of : (a f m s x : Bool) → (a && (f || (not m && not (s && not x)))) ≡ false → a ≡ true → (f ≡ false) × (m ≡ false → (s ≡ true) × (x ≡ false))
next_of true false true s x none set = (refl, λ h. absurd cc)
next_of true false false true false none set = (refl, λ h. (refl, refl))
next_of true false false true true none set = absurd cc
next_of true false false false x none set = absurd cc
next_of true true m s x none set = absurd cc
next_of false f m s x none set = absurd cc

pub returns : goal.returns
returns c = record {
  whole = λ k n le few over set none.
      let w = c.number_words-words.result in
      let numbers = bit_and c.args.scalars (flip c.args.taken) in
      let numbers_fit : numbers < 2 ^ 64 = let le = and_le_l c.args.scalars (flip c.args.taken) in omega (arith, le) in
      let d_fits : w.digits < 2 ^ 64 = omega arith in
      let known = bit_or (bit_or (bit_or (bit_or w.digits w.minuses) w.pluses) w.points) w.exponents in
      let known_fit : known < 2 ^ 64 =
      or_lt 64 _ w.exponents (or_lt 64 _ w.points (or_lt 64 _ w.pluses (or_lt 64 w.digits w.minuses d_fits (omega arith)) (omega arith)) (omega arith)) (omega arith) in
      let ends = bit_and c.stops.result (flip c.args.scalars) in
      let ends_fit : ends < 2 ^ 64 = let le = and_le_l c.stops.result (flip c.args.scalars) in omega (arith, le) in
      let low : (j : ℕ) → j ≤ n → j < 64 = λ j le. omega arith in
      let at_end = λ (j : ℕ) (le : j ≤ n). neither _ (bit_and (numbers * 2 % 2 ^ 64) (bit_or c.args.firsts (bit_and (flip numbers) (flip ends)))) j (none j le) in
      let at_last = λ (j : ℕ) (le : j ≤ n). neither _ (bit_and (bit_and numbers (flip (numbers / 2))) (flip w.digits)) j (at_end j le).0 in
      let at_known = λ (j : ℕ) (le : j ≤ n). neither c.misplaced.result (bit_and numbers (flip known)) j (at_last j le).0 in
      let b = c.requires.bounds in
      let same = c.requires.block in
      whole_number c.args.text.now c.args.at w (bit numbers) (bit c.args.scalars) (λ j. is_stop (get_or c.args.text.now (c.args.at + j) 0)) (bit c.args.firsts)
      c.misplaced.ensures.fraction c.misplaced.ensures.power n few b (subst (λ v. AreClasses v (bit numbers) (bit c.args.firsts) w) same c.number_words-words.ensures)
      (λ j le h. low_kept c.args.scalars _ j h)
      (λ j le. c.misplaced.ensures.placed j (low j le) (at_known j le).0)
      (λ j le h.
      sym (bit-or _ w.exponents j ∙ (λ i. (bit-or _ w.points j ∙ (λ i. (bit-or _ w.pluses j ∙ ap (λ t. t || bit w.pluses j) (bit-or w.digits w.minuses j)) i || bit w.points j)) i || bit w.exponents j))
      ∙ left_none (bit numbers j) (bit known j) (sym (but numbers known j known_fit (low j le)) ∙ (at_known j le).1) h)
      (λ j le h past.
      last_of (bit numbers j) (bit numbers (suc j)) (bit w.digits j)
      (sym
      (but (bit_and numbers (flip (numbers / 2))) w.digits j d_fits (low j le)
      ∙ ap (λ t. t && not (bit w.digits j)) (but numbers (numbers / 2) j (omega (arith, numbers_fit)) (low j le) ∙ ap (λ t. bit numbers j && not t) (bit-down numbers j)))
      ∙ (at_last j le).1) h past)
      (λ j le h.
      let lt = low (suc j) le in
      let on = next_of (bit numbers j) (bit c.args.firsts (suc j)) (bit numbers (suc j)) (bit c.stops.result (suc j)) (bit c.args.scalars (suc j))
      (sym
      (bit-and (numbers * 2 % 2 ^ 64) _ (suc j)
      ∙ (λ i.
      shifted numbers (suc j) lt i
      && (bit-or c.args.firsts _ (suc j)
      ∙ ap (λ t. bit c.args.firsts (suc j) || t)
      (and_but (flip ends) numbers (suc j) numbers_fit lt
      ∙ ap (λ t. not (bit numbers (suc j)) && t) (bit-not ends (suc j) ends_fit lt ∙ ap not (but c.stops.result c.args.scalars (suc j) c.ranges.scalars.fits lt)))) i))
      ∙ (at_end (suc j) le).1) h in
      (on.0, λ past. let is = on.1 past in (ap is_stop (sym (ap (λ v. get_or v (suc j) 0) same ∙ block_byte c.args.text.now c.args.at (suc j) lt)) ∙ sym (c.stops.ensures (suc j) lt) ∙ is.0, is.1)))
      over k le set;
}
