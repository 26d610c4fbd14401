-- A byte order mark alone before the first record separator, as what is told of the elements of a sequence shows it.
use Rattle.std.proofs.Common.{◌≡◌, ℕ, suc, ◌+◌, ◌-◌, ◌<◌, ◌≤◌, List, [], ◌∷◌, ◌++◌, length, take, drop, Bool, true, false, cond, refl, sym, ap, subst, ◌∙◌, arith}
use Rattle.std.specs.Prelude.{◌==◌, ◌&&◌, slice_range, slice_index_or, All}
use Rattle.std.specs.List.{AllZip}
use Rattle.std.proofs.lemmas.Bool.Decides.{nat_tests}
use Rattle.std.proofs.lemmas.List.{length-take-le}
use Rattle.std.proofs.lemmas.List.Elements.{All-head}
use Rattle.jx_summary.specs.declared.span.Span.{Span}
use Rattle.jx_run.specs.declared.texts.settings.Front.TheVariants as seen
use Rattle.jx_run.specs.declared.texts.settings.FrontMark.TheVariants as on_mark
use Rattle.jx_run.specs.declared.texts.verdict.Refusal.{Refusal}
use Rattle.jx_run.specs.declared.texts.verdict.Refusal.TheVariants as refusal
use Rattle.jx_run.specs.Elements.{Part, part, part_span, elements}
use Rattle.jx_run.specs.Front.{agreed, front_by}
use Rattle.jx_run.specs.MarkAlone.{elements_by, is_mark_alone, part_of, without_mark}
use Rattle.jx_run.specs.Settings.{byte_order_mark}
use Rattle.jx_run.specs.Tree.{span}
use Rattle.jx_run.proofs.ElementsLie.{LiesIn, elements_lie}

-- how much of the mark the bytes begin with shows in as many bytes as it has
agreed_front : (xs ms : List ℕ) → agreed (take (length ms) xs) ms ≡ agreed xs ms
agreed_front [] [] = refl
agreed_front [] (m ∷ ms) = refl
agreed_front (x ∷ xs) [] = refl
agreed_front (x ∷ xs) (m ∷ ms) = ap (λ (n : ℕ). cond (x == m) (suc n) 0) (agreed_front xs ms)

-- ---- whether a part is the mark alone, as its span and the first bytes of the input tell

long_part : (input : List ℕ) (end : ℕ) → end ≤ length input → length (slice_range input 0 end) ≡ end
long_part input end within = length-take-le (end - 0) input (omega (arith, within)) ∙ (let e : end - 0 ≡ end = omega arith in e)

first_three : (input : List ℕ) → 3 ≤ length input → is_mark_alone (part_of input (span 0 3)) ≡ (agreed input byte_order_mark == 3)
first_three input within =
    let long : length (slice_range input 0 3) ≡ 3 = long_part input 3 within in
    let e : (length (slice_range input 0 3) == 3) ≡ true = grind (arith, nat_tests) in
    ap (λ (b : Bool). b && (agreed (slice_range input 0 3) byte_order_mark == 3)) e ∙ ap (λ (n : ℕ). n == 3) (agreed_front input byte_order_mark)

at_span : (input : List ℕ) (s : Span) (start end : ℕ) (b : Bool) → s.start ≡ start → s.end ≡ end → is_mark_alone (part_of input (span start end)) ≡ b → is_mark_alone (part_of input s) ≡ b
at_span input s start end b x y h =
    subst (λ (i : ℕ). is_mark_alone (part_of input (span i s.end)) ≡ b) (sym x) (subst (λ (j : ℕ). is_mark_alone (part_of input (span start j)) ≡ b) (sym y) h)

pub alone_here : (input : List ℕ) (s : Span) → s.end ≤ length input → s.start ≡ 0 → s.end ≡ 3 → is_mark_alone (part_of input s) ≡ (agreed input byte_order_mark == 3)
alone_here input s within at end = at_span input s 0 3 (agreed input byte_order_mark == 3) at end (first_three input (omega (arith, within, end)))

pub refuses : (k count : ℕ) (r : Refusal) → front_by k count ≡ seen.Refused r → (k == 3) ≡ false
refuses k count r e = pick (k == 0) (k == 3) refl refl e
  where
    pick : (x y : Bool) → (k == 0) ≡ x → (k == 3) ≡ y
        → cond x (seen.Skip 0) (cond y (seen.Skip 3) (cond (k == count) (seen.Refused refusal.Truncated) (seen.Refused (refusal.Stopped k)))) ≡ seen.Refused r → (k == 3) ≡ false
    pick true y p q h = absurd cc
    pick false true p q h = absurd cc
    pick false false p q h = q

-- ---- what is told of the elements, without it

-- something is told of each part, with the part's span
module _ {E : Type 0} (span_in : E → Span) (Tells : Part → E → Type 0) (stands : (p : Part) (x : E) → Tells p x → span_in x ≡ part_span p) (input : List ℕ) where
  -- the first one's span is within the input, and its bytes are those of the first part
  first_within : (ps : List Part) (xs : List E) (d : E) → AllZip Tells ps xs → All (LiesIn input) ps → 0 < length xs → (span_in (slice_index_or xs 0 d)).end ≤ length input
  first_within [] [] d z l h = absurd (omega (arith, h))
  first_within [] (x ∷ xs) d z l h = absurd z
  first_within (p ∷ ps) [] d z l h = absurd z
  first_within (p ∷ ps) (x ∷ xs) d z l h =
      let lies = All-head (LiesIn input) p ps l in
      let end : (span_in x).end ≡ p.at + length p.bytes = ap (λ (s : Span). s.end) (stands p x z.0) in
      let within : p.at + length p.bytes ≤ length input = lies.within in
      omega (arith, end, within)

  same_part : (p : Part) (x : E) → Tells p x → LiesIn input p → part_of input (span_in x) ≡ p
  same_part p x e lies = ap (part_of input) (stands p x e) ∙ ap (part p.at) lies.bytes

  none_left : (ps : List Part) (xs : List E) → AllZip Tells ps xs → length xs ≡ 0 → AllZip Tells (without_mark ps) xs
  none_left [] [] z h = z
  none_left [] (x ∷ xs) z h = absurd z
  none_left (p ∷ ps) [] z h = absurd z
  none_left (p ∷ ps) (x ∷ xs) z h = absurd (omega (arith, h))

  first_stays : (ps : List Part) (xs : List E) (d : E) → AllZip Tells ps xs → All (LiesIn input) ps
      → is_mark_alone (part_of input (span_in (slice_index_or xs 0 d))) ≡ false → AllZip Tells (without_mark ps) xs
  first_stays [] xs d z l stays = z
  first_stays (p ∷ ps) [] d z l stays = absurd z
  first_stays (p ∷ ps) (x ∷ xs) d z l stays =
      let other : is_mark_alone p ≡ false = ap (λ (q : Part). is_mark_alone q) (sym (same_part p x z.0 (All-head (LiesIn input) p ps l))) ∙ stays in
      subst (λ (b : Bool). AllZip Tells (cond b ps (p ∷ ps)) (x ∷ xs)) (sym other) z

  first_goes : (ps : List Part) (xs next : List E) (d : E) → AllZip Tells ps xs → All (LiesIn input) ps → 0 < length xs
      → is_mark_alone (part_of input (span_in (slice_index_or xs 0 d))) ≡ true → next ≡ take 0 xs ++ drop 1 xs → AllZip Tells (without_mark ps) next
  first_goes [] [] next d z l h goes e = absurd (omega (arith, h))
  first_goes [] (x ∷ xs) next d z l h goes e = absurd z
  first_goes (p ∷ ps) [] next d z l h goes e = absurd z
  first_goes (p ∷ ps) (x ∷ xs) next d z l h goes e =
      let same : is_mark_alone p ≡ true = ap (λ (q : Part). is_mark_alone q) (sym (same_part p x z.0 (All-head (LiesIn input) p ps l))) ∙ goes in
      subst (AllZip Tells (without_mark (p ∷ ps))) (sym e) (subst (λ (b : Bool). AllZip Tells (cond b ps (p ∷ ps)) xs) (sym same) z.1)

  module _ (xs : List E) (z : AllZip Tells (elements 0 input) xs) where
    pub none_at_all : length xs ≡ 0 → AllZip Tells (elements_by on_mark.Ignored input) xs
    none_at_all h = none_left (elements 0 input) xs z h

    module _ (x : E) (some : 0 < length xs) (is : x ≡ slice_index_or xs 0 x) where
      span_of_first : span_in x ≡ span_in (slice_index_or xs 0 x)
      span_of_first = ap span_in is

      pub within_input : (span_in x).end ≤ length input
      within_input = subst (λ (s : Span). s.end ≤ length input) (sym span_of_first) (first_within (elements 0 input) xs x z (elements_lie input) some)

      pub mark_stays : is_mark_alone (part_of input (span_in x)) ≡ false → AllZip Tells (elements_by on_mark.Ignored input) xs
      mark_stays told = first_stays (elements 0 input) xs x z (elements_lie input) (subst (λ (s : Span). is_mark_alone (part_of input s) ≡ false) span_of_first told)

      pub mark_goes : is_mark_alone (part_of input (span_in x)) ≡ true → (next : List E) → next ≡ take 0 xs ++ drop 1 xs → AllZip Tells (elements_by on_mark.Ignored input) next
      mark_goes told next rest =
          first_goes (elements 0 input) xs next x z (elements_lie input) some (subst (λ (s : Span). is_mark_alone (part_of input s) ≡ true) span_of_first told) rest
