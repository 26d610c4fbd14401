-- A text sequence is read part by part.
use Rattle.std.proofs.Common.{◌≡◌, ◌≢◌, ℕ, zero, suc, ◌+◌, ◌-◌, ◌<◌, ◌≤◌, List, [], ◌∷◌, ◌++◌, length, take, drop, get_or, Bool, true, false, cond, Some, None, refl, sym, ap, subst, ◌∙◌, append_assoc, append-nil, drop-cons, arith}
use Rattle.std.specs.Prelude.{◌==◌, slice_range}
use Rattle.std.specs.List.{AllZip}
use Rattle.std.proofs.lemmas.Bool.Decides.{nat_tests}
use Rattle.std.proofs.lemmas.List.{get_or-drop, length-drop}
use Rattle.std.proofs.lemmas.List.Elements.{filter-append}
use Rattle.jx_run.specs.declared.sequences.element_verdict.ElementVerdict.TheVariants as element
use Rattle.jx_run.specs.declared.sequences.element_verdict.JudgedElement.{JudgedElement}
use Rattle.jx_run.specs.declared.texts.settings.FrontMark.TheVariants as on_mark
use Rattle.jx_run.specs.declared.texts.settings.Settings.{Settings}
use Rattle.jx_run.specs.declared.texts.verdict.Verdict.{Verdict}
use Rattle.jx_run.specs.Elements.{Part, part, is_separator, before_separator, after_separators, parts, filled, has_bytes, elements}
use Rattle.jx_run.specs.ElementVerdict.{IsJudgedElement, told}
use Rattle.jx_run.specs.Reader.{ReaderValue, HasRead}
use Rattle.jx_run.specs.Settings.{JudgedBy}
use Rattle.jx_run.specs.SequenceRead.{AreRead, EndsWithSeparator, HasNoSeparator, StartsWithSeparator, ended_there, listed}
use Rattle.jx_run.specs.Tree.{span}
use Rattle.jx_run.specs.Unclosed.{ends_open, last_open}
use Rattle.jx_run.specs.Verdict.{Judged}
use Rattle.jx_run.proofs.ElementSteps.{judged_element}
use Rattle.jx_run.proofs.Fronts.{judged_refused}
use Rattle.jx_run.proofs.Lexical.{TokensAreRead}
use Rattle.jx_run.proofs.OpenEnds.{last_open-append}
use Rattle.jx_run.proofs.Parts.{last-ends, longer, parts-append, unmarked-before}
use Rattle.jx_run.proofs.PartedJoins.{AllZip-append}
use Rattle.jx_run.proofs.SeqReading.{one_reading, no_reading}

-- ---- bytes without a separator

unmarked_rest : (b : ℕ) (xs : List ℕ) → HasNoSeparator (b ∷ xs) → (is_separator b ≡ false) × HasNoSeparator xs
unmarked_rest b xs h = pick (is_separator b) h
  where
    pick : (m : Bool) → cond m [] (b ∷ before_separator xs) ≡ b ∷ xs → (m ≡ false) × HasNoSeparator xs
    pick true h = absurd cc
    pick false h = (refl, cc)

pub unmarked-after : (xs : List ℕ) (at : ℕ) → HasNoSeparator xs → after_separators at xs ≡ []
unmarked-after [] at h = refl
unmarked-after (b ∷ xs) at h =
    let r = unmarked_rest b xs h in
    ap (λ (m : Bool). cond m (part (suc at) (before_separator xs) ∷ after_separators (suc at) xs) (after_separators (suc at) xs)) r.0 ∙ unmarked-after xs (suc at) r.1

-- ---- bytes that begin with a separator, behind others

before-stays : (xs ys : List ℕ) → StartsWithSeparator ys → before_separator (xs ++ ys) ≡ before_separator xs
before-stays [] ys h = h
before-stays (b ∷ xs) ys h = ap (λ (t : List ℕ). cond (is_separator b) [] (b ∷ t)) (before-stays xs ys h)

after-append : (xs ys : List ℕ) (at : ℕ) → StartsWithSeparator ys → after_separators at (xs ++ ys) ≡ after_separators at xs ++ after_separators (at + length xs) ys
after-append [] ys at h = let e : at ≡ at + 0 = omega arith in ap (λ (n : ℕ). after_separators n ys) e
after-append (b ∷ xs) ys at h =
    let e : suc at + length xs ≡ at + length (b ∷ xs) = omega arith in
    pick (is_separator b) (after-append xs ys (suc at) h) (before-stays xs ys h) ∙ ap (λ (n : ℕ). after_separators at (b ∷ xs) ++ after_separators n ys) e
  where
    pick : (m : Bool) → after_separators (suc at) (xs ++ ys) ≡ after_separators (suc at) xs ++ after_separators (suc at + length xs) ys → before_separator (xs ++ ys) ≡ before_separator xs
        → cond m (part (suc at) (before_separator (xs ++ ys)) ∷ after_separators (suc at) (xs ++ ys)) (after_separators (suc at) (xs ++ ys))
        ≡ cond m (part (suc at) (before_separator xs) ∷ after_separators (suc at) xs) (after_separators (suc at) xs) ++ after_separators (suc at + length xs) ys
    pick true more same = ap (λ (t : List ℕ). part (suc at) t ∷ after_separators (suc at) (xs ++ ys)) same ∙ ap (λ ps. part (suc at) (before_separator xs) ∷ ps) more
    pick false more same = more

parts-behind : (xs ys : List ℕ) (at : ℕ) → StartsWithSeparator ys → parts at (xs ++ ys) ≡ parts at xs ++ after_separators (at + length xs) ys
parts-behind xs ys at h = ap (λ (t : List ℕ). part at t ∷ after_separators at (xs ++ ys)) (before-stays xs ys h) ∙ ap (λ ps. part at (before_separator xs) ∷ ps) (after-append xs ys at h)

-- a separator at the end ends all elements before it
ends-empty : (front bytes : List ℕ) (at : ℕ) → bytes ≡ front ++ 30 ∷ [] → after_separators at bytes ≡ after_separators at front ++ part (at + length bytes) [] ∷ []
ends-empty front bytes at h =
    let long : length bytes ≡ length front + 1 = ap length h ∙ length-one front in
    let e : suc (at + length front) ≡ at + length bytes = omega (arith, long) in
    ap (after_separators at) h ∙ after-append front (30 ∷ []) at refl ∙ ap (λ (n : ℕ). after_separators at front ++ part n [] ∷ []) e
  where
    length-one : (xs : List ℕ) → length (xs ++ 30 ∷ []) ≡ length xs + 1
    length-one [] = refl
    length-one (x ∷ xs) = let h = length-one xs in omega (arith, h)

-- the last part ends where all bytes do
ends_there_all : (bytes : List ℕ) (ended : List Part) (last : Part) → parts 0 bytes ≡ ended ++ last ∷ [] → last.at + length last.bytes ≡ length bytes
ends_there_all bytes [] last h =
    let same : part 0 (before_separator bytes) ≡ last = cc in
    let rest : after_separators 0 bytes ≡ [] = cc in
    sym (ap (λ (p : Part). p.at + length p.bytes) same) ∙ ap (λ (t : List ℕ). 0 + length t) (unmarked-before bytes 0 rest) ∙ (let e : 0 + length bytes ≡ length bytes = omega arith in e)
ends_there_all bytes (p ∷ ps) last h =
    let rest : after_separators 0 bytes ≡ ps ++ last ∷ [] = cc in
    last-ends bytes 0 ps last rest ∙ (let e : 0 + length bytes ≡ length bytes = omega arith in e)

-- ---- what was read goes on

module _ (limit : ℕ) where
  abbrev R : Part → JudgedElement → Type 0
  R = IsJudgedElement limit

  pub begun : (reader : ReaderValue) → reader.settings.depth ≡ limit → reader.settings.mark ≡ on_mark.Refused → reader.start ≡ 0 → HasRead [] reader → AreRead limit [] [] reader false
  begun reader deep mark start read = record { ended = []; last = part 0 []; parts = refl; done = tt; depth = deep; mark = mark; start = start; read = read; opens = refl }

  pub gone_on : (bytes more : List ℕ) (done : List JudgedElement) (old new : ReaderValue) (open_ended next : Bool) → AreRead limit bytes done old open_ended → HasNoSeparator more → new.settings ≡ old.settings
      → new.start ≡ old.start → ((xs : List ℕ) → HasRead xs old → HasRead (xs ++ more) new) → next ≡ last_open open_ended more → AreRead limit (bytes ++ more) done new next
  gone_on bytes more done old new open_ended next h none same start reads is =
      record {
        ended = h.ended;
        last = longer h.last more;
        parts =
            parts-append bytes more 0 h.ended h.last h.parts
            ∙ ap (λ (t : List ℕ). h.ended ++ longer h.last t ∷ after_separators (0 + length bytes) more) none
            ∙ ap (λ ps. h.ended ++ longer h.last more ∷ ps) (unmarked-after more (0 + length bytes) none);
        done = h.done;
        depth = ap (λ (s : Settings). s.depth) same ∙ h.depth;
        mark = ap (λ (s : Settings). s.mark) same ∙ h.mark;
        start = start ∙ h.start;
        read = reads h.last.bytes h.read;
        opens = is ∙ ap (λ (b : Bool). last_open b more) h.opens ∙ sym (last_open-append false h.last.bytes more);
      }

  pub reached : (bytes : List ℕ) (done : List JudgedElement) (reader : ReaderValue) (open_ended : Bool) → AreRead limit bytes done reader open_ended → reader.start + reader.count ≡ length bytes
  reached bytes done reader open_ended h =
      let end : h.last.at + length h.last.bytes ≡ length bytes = ends_there_all bytes h.ended h.last h.parts in
      let start = h.start in
      let long = h.read.count in
      omega (arith, end, start, long)

  -- the last element, where it ends
  last_one : (p : Part) (reader : ReaderValue) (open_ended : Bool) (v : Verdict) → reader.settings.depth ≡ limit → reader.start ≡ p.at → HasRead p.bytes reader → open_ended ≡ ends_open p.bytes
      → ((xs : List ℕ) → HasRead xs reader → Judged reader.start xs reader.settings.depth v) → AllZip R (filled (p ∷ [])) (listed (ended_there (span reader.start (reader.start + reader.count)) v open_ended))
  last_one p reader open_ended v deep start read is judged =
      pick (reader.start == reader.start + reader.count) (reader.start == 0) refl refl
    where
      long : reader.count ≡ length p.bytes
      long = read.count

      here : (e : JudgedElement) → e ≡ record { span = span reader.start (reader.start + reader.count); verdict = told v open_ended } → 0 < p.at → IsJudgedElement limit p e
      here e same marked =
          subst (λ (x : JudgedElement). IsJudgedElement limit p x) (sym same)
          (judged_element limit p.at p.bytes reader.start (reader.start + reader.count) v open_ended (told v open_ended) start (omega (arith, start, long)) marked
          (subst (λ (d : ℕ). Judged p.at p.bytes d v) deep (subst (λ (n : ℕ). Judged n p.bytes reader.settings.depth v) start (judged p.bytes read))) is refl)

      pick : (x y : Bool) → (reader.start == reader.start + reader.count) ≡ x → (reader.start == 0) ≡ y
          → AllZip R (filled (p ∷ []))
          (listed (cond x None (cond y (Some (record { span = span reader.start (reader.start + reader.count); verdict = element.Unmarked }))
          (Some (record { span = span reader.start (reader.start + reader.count); verdict = told v open_ended })))))
      pick true y e f =
          let same : reader.start ≡ reader.start + reader.count = grind (arith, nat_tests) in
          no_reading R p (omega (arith, same, long))
      pick false true e f =
          let other : reader.start ≢ reader.start + reader.count = grind (arith, nat_tests) in
          let zero_at : reader.start ≡ 0 = grind (arith, nat_tests) in
          one_reading R p _ (omega (arith, other, long))
          (record {
            span_is = ap (λ (n : ℕ). span n (reader.start + reader.count)) start ∙ ap (span p.at) (let e : reader.start + reader.count ≡ p.at + length p.bytes = omega (arith, start, long) in e);
            verdict_is = sym start ∙ zero_at;
          })
      pick false false e f =
          let other : reader.start ≢ reader.start + reader.count = grind (arith, nat_tests) in
          let marked : reader.start ≢ 0 = grind (arith, nat_tests) in
          one_reading R p _ (omega (arith, other, long)) (here _ refl (omega (arith, marked, start)))

  pub ended : TokensAreRead → (bytes : List ℕ) (done : List JudgedElement) (reader : ReaderValue) (open_ended : Bool) (v : Verdict) → AreRead limit bytes done reader open_ended
      → ((xs : List ℕ) → HasRead xs reader → JudgedBy reader.settings reader.start xs v)
      → AllZip R (elements 0 bytes) (done ++ listed (ended_there (span reader.start (reader.start + reader.count)) v open_ended))
  ended law bytes done reader open_ended v h judged =
      subst (λ ps. AllZip R ps (done ++ listed (ended_there (span reader.start (reader.start + reader.count)) v open_ended))) (sym (ap filled h.parts ∙ filter-append has_bytes h.ended (h.last ∷ [])))
      (AllZip-append R (filled h.ended) (filled (h.last ∷ [])) done _ h.done (last_one h.last reader open_ended v h.depth h.start h.read h.opens (λ xs read. judged_refused law reader.settings reader.start xs h.mark v (judged xs read))))

  pub marked : (bytes more : List ℕ) (done behind : List JudgedElement) (reader : ReaderValue) → AllZip R (elements 0 bytes) done → StartsWithSeparator more → EndsWithSeparator more
      → AllZip R (elements (length bytes) more) behind → reader.settings.depth ≡ limit → reader.settings.mark ≡ on_mark.Refused → reader.start ≡ length bytes + length more → HasRead [] reader
      → AreRead limit (bytes ++ more) (done ++ behind) reader false
  marked bytes more done behind reader h starts ends k deep mark start read =
      let n = length bytes in
      let front = after_separators n ends.0 in
      let here : after_separators n more ≡ front ++ part (n + length more) [] ∷ [] = ends-empty ends.0 more n ends.1 in
      let zero_at : 0 + n ≡ n = omega arith in
      let first : filled (parts n more) ≡ filled (after_separators n more) = ap (λ (t : List ℕ). filled (part n t ∷ after_separators n more)) starts in
      let last : filled (after_separators n more) ≡ filled front =
      ap filled here ∙ filter-append has_bytes front (part (n + length more) [] ∷ []) ∙ append-nil (filled front) in
      record {
        ended = parts 0 bytes ++ front;
        last = part (n + length more) [];
        parts =
            parts-behind bytes more 0 starts
            ∙ ap (λ (i : ℕ). parts 0 bytes ++ after_separators i more) zero_at
            ∙ ap (λ ps. parts 0 bytes ++ ps) here
            ∙ sym (append_assoc (parts 0 bytes) front (part (n + length more) [] ∷ []));
        done =
            subst (λ ps. AllZip R ps (done ++ behind)) (sym (filter-append has_bytes (parts 0 bytes) front))
            (AllZip-append R (elements 0 bytes) (filled front) done behind h (subst (λ ps. AllZip R ps behind) (first ∙ last) k));
        depth = deep;
        mark = mark;
        start = start;
        read = read;
        opens = refl;
      }

-- ---- from the first separator up to behind the last one

pub no_separator : (xs : List ℕ) → ((k : ℕ) → k < length xs → is_separator (get_or xs k 0) ≡ true → ⊥) → HasNoSeparator xs
no_separator [] h = refl
no_separator (b ∷ xs) h = pick (is_separator b) (h 0 (omega arith)) (no_separator xs (λ k low. h (suc k) (omega (arith, low))))
  where
    pick : (m : Bool) → (m ≡ true → ⊥) → HasNoSeparator xs → cond m [] (b ∷ before_separator xs) ≡ b ∷ xs
    pick true away more = absurd (away refl)
    pick false away more = ap (λ ys. b ∷ ys) more

pub starts_there : (xs : List ℕ) (i j : ℕ) → i < j → i < length xs → is_separator (get_or xs i 0) ≡ true → StartsWithSeparator (slice_range xs i j)
starts_there xs i j low within is =
    let long : j - i ≡ suc (j - i - 1) = omega (arith, low) in
    ap (λ (n : ℕ). before_separator (take n (drop i xs))) long
    ∙ ap (λ (ys : List ℕ). before_separator (take (suc (j - i - 1)) ys)) (drop-cons xs i 0 within)
    ∙ ap (λ (m : Bool). cond m [] (get_or xs i 0 ∷ before_separator (take (j - i - 1) (drop (suc i) xs)))) is

take-snoc : (xs : List ℕ) (n : ℕ) → n < length xs → take (suc n) xs ≡ take n xs ++ get_or xs n 0 ∷ []
take-snoc [] n h = absurd (omega (arith, h))
take-snoc (x ∷ xs) zero h = refl
take-snoc (x ∷ xs) (suc n) h = ap (λ ys. x ∷ ys) (take-snoc xs n (omega (arith, h)))

pub ends_there : (xs : List ℕ) (i j : ℕ) → i ≤ j → j < length xs → is_separator (get_or xs j 0) ≡ true → EndsWithSeparator (slice_range xs i (j + 1))
ends_there xs i j low within is =
    let rest : length (drop i xs) ≡ length xs - i = length-drop i xs in
    let long : j + 1 - i ≡ suc (j - i) = omega (arith, low) in
    let there : get_or (drop i xs) (j - i) 0 ≡ 30 =
    get_or-drop i xs (j - i) 0 ∙ ap (λ (n : ℕ). get_or xs n 0) (let e : i + (j - i) ≡ j = omega (arith, low) in e) ∙ (let b = get_or xs j 0 in let e : b ≡ 30 = grind (arith, nat_tests) in e) in (
      take (j - i) (drop i xs),
      ap (λ (n : ℕ). take n (drop i xs)) long
          ∙ take-snoc (drop i xs) (j - i) (omega (arith, rest, low, within))
          ∙ ap (λ (b : ℕ). take (j - i) (drop i xs) ++ b ∷ []) there,
    )

pub unmarked_front : (xs : List ℕ) (k : ℕ) → k ≤ length xs → ((j : ℕ) → j < k → is_separator (get_or xs j 0) ≡ true → ⊥) → HasNoSeparator (take k xs)
unmarked_front xs zero within h = refl
unmarked_front [] (suc k) within h = refl
unmarked_front (b ∷ xs) (suc k) within h = pick (is_separator b) (h 0 (omega arith)) (unmarked_front xs k (omega (arith, within)) (λ j low. h (suc j) (omega (arith, low))))
  where
    pick : (m : Bool) → (m ≡ true → ⊥) → HasNoSeparator (take k xs) → cond m [] (b ∷ before_separator (take k xs)) ≡ b ∷ take k xs
    pick true away more = absurd (away refl)
    pick false away more = ap (λ ys. b ∷ ys) more

pub unmarked_rest_of : (xs : List ℕ) (k : ℕ) → k ≤ length xs → ((j : ℕ) → k ≤ j → j < length xs → is_separator (get_or xs j 0) ≡ true → ⊥) → HasNoSeparator (drop k xs)
unmarked_rest_of xs k within h =
    let rest : length (drop k xs) ≡ length xs - k = length-drop k xs in
    no_separator (drop k xs) (λ j low m. h (k + j) (omega arith) (omega (arith, rest, low)) (sym (ap is_separator (get_or-drop k xs j 0)) ∙ m))
