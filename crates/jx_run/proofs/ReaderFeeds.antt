-- The reading of a text by settings goes on, slice by slice: a byte order mark may stand in front, cut anywhere.
use Rattle.std.proofs.Common.{◌≡◌, ℕ, ◌+◌, ◌-◌, ◌^◌, ◌<◌, ◌≤◌, List, [], ◌∷◌, ◌++◌, length, drop, Bool, true, false, cond, refl, sym, ◌∙◌, ap, subst, arith, inl, inr, Option, Some, None}
use Rattle.std.specs.Prelude.{◌==◌, slice_range}
use Rattle.std.proofs.lemmas.Bool.Decides.{nat_tests}
use Rattle.std.proofs.lemmas.List.{drop-append-le, length-append, length-drop, take_all}
use Rattle.std.proofs.Math.Seq.{drop-append-add}
use Rattle.jx_lex.specs.declared.alphabet.state.LexState.{LexState}
use Rattle.jx_lex.specs.declared.alphabet.state.LexState.TheVariants as state
use Rattle.jx_lex.specs.Lex as lexical
use Rattle.jx_lex.specs.Lex.{lex}
use Rattle.jx_reduce.specs.declared.table.expect.Expect.{Expect}
use Rattle.jx_reduce.specs.declared.table.expect.Expect.TheVariants as expect
use Rattle.jx_reduce.specs.declared.table.holder.Holder.{Holder}
use Rattle.jx_reduce.specs.KnownStack.{Known, IsFault, HasRead as StackHasRead}
use Rattle.jx_reduce.specs.Read.{Reading, read as read_marks}
use Rattle.jx_run.specs.declared.readers.progress.Progress.{Progress}
use Rattle.jx_run.specs.declared.readers.progress.Progress.TheVariants.{Front, Going, Stopped, TooDeep, Failed}
use Rattle.jx_run.specs.declared.texts.settings.Front.TheVariants as seen
use Rattle.jx_run.specs.declared.texts.settings.FrontMark.{FrontMark}
use Rattle.jx_run.specs.declared.texts.settings.FrontMark.TheVariants as on_mark
use Rattle.jx_run.specs.declared.texts.settings.Settings.{Settings}
use Rattle.jx_run.specs.declared.texts.verdict.Refusal.TheVariants as refusal
use Rattle.jx_run.specs.declared.texts.verdict.Verdict.TheVariants as verdict
use Rattle.jx_run.specs.Front.{agreed}
use Rattle.jx_run.specs.Laws.{verdict_of, verdict_on}
use Rattle.jx_run.specs.Reader.{Outcome, in_front, reads, read_behind, read_by, is_fault}
use Rattle.jx_run.specs.ReaderInside.{outcome_at, shifted, IsLow, IsOfUse, IsReadTo, GoesOn}
use Rattle.jx_run.specs.Reading.{TextReading, went, stopped, too_deep, at_exit, and_then, read, read_text}
use Rattle.jx_run.specs.Settings.{byte_order_mark, JudgedBy}
use Rattle.jx_run.specs.Verdict.{Judged}
use Rattle.jx_run.proofs.Fronts.{IsToldFrom, agreed_behind, agreed_on, agreed_short, judged_other, refused_judged, told_from}
use Rattle.jx_run.proofs.LawProofs.{FirstFaults, verdict_law}
use Rattle.jx_run.proofs.Lexical.{TokensAreRead}
use Rattle.jx_run.proofs.ReaderSteps.{low, read-shift, read_is}
use Rattle.jx_run.proofs.RunJoin.{read-append}

-- ---- how many bytes of a mark stand in front

pub data Case (n long : ℕ) : Type 0 where
  whole : n ≡ 3 → Case n long
  part : (n ≡ 3 → ⊥) → n ≡ long → Case n long
  none : n ≡ 0 → 0 < long → Case n long
  cut : (n ≡ 3 → ⊥) → 0 < n → n < long → Case n long

pub cases : (n long : ℕ) → n ≤ long → Case n long
cases n long le = pick (n == 3) (n == long) (n == 0) refl refl refl
  where
    pick : (x y z : Bool) → (n == 3) ≡ x → (n == long) ≡ y → (n == 0) ≡ z → Case n long
    pick true y z e f g = whole (grind (arith, nat_tests))
    pick false true z e f g = part (grind (arith, nat_tests)) (grind (arith, nat_tests))
    pick false false true e f g =
        let other : n ≡ long → ⊥ = grind (arith, nat_tests) in
        let zero_is : n ≡ 0 = grind (arith, nat_tests) in
        none zero_is (omega (arith, other, zero_is, le))
    pick false false false e f g =
        let other : n ≡ long → ⊥ = grind (arith, nat_tests) in
        let some : n ≡ 0 → ⊥ = grind (arith, nat_tests) in
        cut (grind (arith, nat_tests)) (omega (arith, some)) (omega (arith, other, le))

module _ (n limit start : ℕ) (bytes : List ℕ) where
  abbrev Shape : Bool → Bool → Bool → Outcome
  Shape x y z =
      cond x (reads (read_text limit (start + 3) (drop 3 bytes)))
      (cond y (in_front n) (cond z (reads (read_text limit start bytes)) (reads (stopped (start + n)))))

  by_tests : (x y z : Bool) → (n == 3) ≡ x → (n == length bytes) ≡ y → (n == 0) ≡ z → read_behind n limit start bytes ≡ Shape x y z
  by_tests x y z e f g = ap (λ t. Shape t (n == length bytes) (n == 0)) e ∙ ap (λ t. Shape x t (n == 0)) f ∙ ap (Shape x y) g

  pub by_whole : n ≡ 3 → read_behind n limit start bytes ≡ reads (read_text limit (start + 3) (drop 3 bytes))
  by_whole e = by_tests true (n == length bytes) (n == 0) (grind (arith, nat_tests)) refl refl

  pub by_part : (n ≡ 3 → ⊥) → n ≡ length bytes → read_behind n limit start bytes ≡ in_front n
  by_part other e = by_tests false true (n == 0) (grind (arith, nat_tests)) (grind (arith, nat_tests)) refl

  pub by_none : n ≡ 0 → 0 < length bytes → read_behind n limit start bytes ≡ reads (read_text limit start bytes)
  by_none e some = by_tests false false true (grind (arith, nat_tests)) (grind (arith, nat_tests)) (grind (arith, nat_tests))

  pub by_cut : (n ≡ 3 → ⊥) → 0 < n → n < length bytes → read_behind n limit start bytes ≡ reads (stopped (start + n))
  by_cut other some less = by_tests false false false (grind (arith, nat_tests)) (grind (arith, nat_tests)) (grind (arith, nat_tests))

-- ---- more bytes

plain_on : (limit start : ℕ) (bytes more : List ℕ) (r : TextReading) → read_text limit start bytes ≡ r
    → read_text limit start (bytes ++ more) ≡ and_then r (λ s e o. read limit s e o (start + length bytes) more)
plain_on limit start bytes more r is =
    read-append limit bytes more state.Gap expect.Value [] start (omega arith) ∙ ap (λ (z : TextReading). and_then z (λ s e o. read limit s e o (start + length bytes) more)) is

-- where the front is decided, the reading goes on from what it came to
pub goes_on_by : (m : FrontMark) (limit start : ℕ) (bytes more : List ℕ) (r : TextReading) → read_by m limit start bytes ≡ reads r
    → read_by m limit start (bytes ++ more) ≡ reads (and_then r (λ s e o. read limit s e o (start + length bytes) more))
goes_on_by on_mark.Refused limit start bytes more r is = let same : read_text limit start bytes ≡ r = cc in ap reads (plain_on limit start bytes more r same)
goes_on_by on_mark.Ignored limit start bytes more r is = go (cases (agreed bytes byte_order_mark) (length bytes) (agreed_short bytes byte_order_mark))
  where
    n : ℕ
    n = agreed bytes byte_order_mark

    long : length (bytes ++ more) ≡ length bytes + length more
    long = length-append bytes more

    go : Case (agreed bytes byte_order_mark) (length bytes) → read_by on_mark.Ignored limit start (bytes ++ more) ≡ reads (and_then r (λ s e o. read limit s e o (start + length bytes) more))
    go (whole e) =
        let three : 3 ≤ length bytes = omega (arith, e, agreed_short bytes byte_order_mark) in
        let here : reads (read_text limit (start + 3) (drop 3 bytes)) ≡ reads r = sym (by_whole (agreed bytes byte_order_mark) limit start bytes e) ∙ is in
        let same : read_text limit (start + 3) (drop 3 bytes) ≡ r = cc in
        let base : (start + 3) + length (drop 3 bytes) ≡ start + length bytes = omega (arith, length-drop 3 bytes, three) in
        by_whole (agreed (bytes ++ more) byte_order_mark) limit start (bytes ++ more) (agreed_on bytes byte_order_mark more (inr e) ∙ e)
        ∙ ap (λ t. reads (read_text limit (start + 3) t)) (drop-append-le 3 bytes more three)
        ∙ ap reads (plain_on limit (start + 3) (drop 3 bytes) more r same)
        ∙ ap (λ (i : ℕ). reads (and_then r (λ s e o. read limit s e o i more))) base
    go (part other e) = let here : in_front (agreed bytes byte_order_mark) ≡ reads r = sym (by_part (agreed bytes byte_order_mark) limit start bytes other e) ∙ is in absurd cc
    go (none e some) =
        let here : reads (read_text limit start bytes) ≡ reads r = sym (by_none (agreed bytes byte_order_mark) limit start bytes e some) ∙ is in
        let same : read_text limit start bytes ≡ r = cc in
        by_none (agreed (bytes ++ more) byte_order_mark) limit start (bytes ++ more) (agreed_on bytes byte_order_mark more (inl (omega (arith, e, some))) ∙ e) (omega (arith, long, some))
        ∙ ap reads (plain_on limit start bytes more r same)
    go (cut other some less) =
        let here : reads (stopped (start + agreed bytes byte_order_mark)) ≡ reads r = sym (by_cut (agreed bytes byte_order_mark) limit start bytes other some less) ∙ is in
        let same : stopped (start + agreed bytes byte_order_mark) ≡ r = cc in
        let now : agreed (bytes ++ more) byte_order_mark ≡ agreed bytes byte_order_mark = agreed_on bytes byte_order_mark more (inl less) in
        by_cut (agreed (bytes ++ more) byte_order_mark) limit start (bytes ++ more) (λ e. other (sym now ∙ e)) (omega (arith, now, some)) (omega (arith, now, less, long))
        ∙ ap (λ k. reads (stopped (start + k))) now
        ∙ ap (λ z. reads (and_then z (λ s e o. read limit s e o (start + length bytes) more))) same

-- no fault lies past the bytes
low_by : FirstFaults → (m : FrontMark) (limit start b : ℕ) (bytes : List ℕ) (r : TextReading) → read_by m limit start bytes ≡ reads (shifted b r) → start + length bytes < 2 ^ 64 → IsLow b r
low_by first_fault on_mark.Refused limit start b bytes r is fits = let same : read_text limit start bytes ≡ shifted b r = cc in low first_fault limit start b bytes r same fits
low_by first_fault on_mark.Ignored limit start b bytes r is fits = go (cases (agreed bytes byte_order_mark) (length bytes) (agreed_short bytes byte_order_mark))
  where
    in_mark : (q : TextReading) → stopped (start + agreed bytes byte_order_mark) ≡ shifted b q → agreed bytes byte_order_mark < length bytes → IsLow b q
    in_mark (went s e o) h less = tt
    in_mark (stopped at) h less = let same : start + agreed bytes byte_order_mark ≡ b + at = cc in omega (arith, same, less, fits)
    in_mark (too_deep at) h less = absurd cc

    go : Case (agreed bytes byte_order_mark) (length bytes) → IsLow b r
    go (whole e) =
        let here : reads (read_text limit (start + 3) (drop 3 bytes)) ≡ reads (shifted b r) = sym (by_whole (agreed bytes byte_order_mark) limit start bytes e) ∙ is in
        let same : read_text limit (start + 3) (drop 3 bytes) ≡ shifted b r = cc in
        low first_fault limit (start + 3) b (drop 3 bytes) r same (omega (arith, e, agreed_short bytes byte_order_mark, length-drop 3 bytes, fits))
    go (part other e) = let here : in_front (agreed bytes byte_order_mark) ≡ reads (shifted b r) = sym (by_part (agreed bytes byte_order_mark) limit start bytes other e) ∙ is in absurd cc
    go (none e some) =
        let here : reads (read_text limit start bytes) ≡ reads (shifted b r) = sym (by_none (agreed bytes byte_order_mark) limit start bytes e some) ∙ is in
        let same : read_text limit start bytes ≡ shifted b r = cc in
        low first_fault limit start b bytes r same fits
    go (cut other some less) =
        let here : reads (stopped (start + agreed bytes byte_order_mark)) ≡ reads (shifted b r) = sym (by_cut (agreed bytes byte_order_mark) limit start bytes other some less) ∙ is in
        let same : stopped (start + agreed bytes byte_order_mark) ≡ shifted b r = cc in
        in_mark r same less

-- ---- a reader that is fed

-- a slice that goes on behind the stack's reading leads to where all bytes do
pub arrives : FirstFaults → (m : FrontMark) (limit start base : ℕ) (all more : List ℕ) (s : LexState) (e : Expect) (o : List Holder) (old new : Known) (p : Progress)
    → read_by m limit start all ≡ reads (read limit s e o base more) → start + length all < 2 ^ 64 → old.depth ≡ limit → old.reading ≡ Reading.went e o
    → GoesOn old (lex s 0 more) (read_marks old.depth (lex s 0 more).marks old.reading) base p new → outcome_at p new.reading ≡ Some (read_by m limit start all)
arrives first_fault m limit start base all more s e o old new p text fits deep is goes =
    let same : read_by m limit start all ≡ reads (shifted base (at_exit (lex s 0 more).exit (read_marks old.depth (lex s 0 more).marks old.reading))) =
    text ∙ ap reads (read-shift limit base s e o more ∙ ap (shifted base) (read_is limit old.depth s e o more old.reading deep is)) in
    goes.outcome (low_by first_fault m limit start base all _ same fits) ∙ ap (λ (z : Outcome). Some z) (sym same)

-- what the stack came to, and where the reading stands
at_state : (z : Outcome) (s : LexState) (r : Reading) → (IsFault r → ⊥) → Some (reads (at_exit (lexical.state s) r)) ≡ Some z
    → (e : Expect) × (o : List Holder) × (r ≡ Reading.went e o) × (z ≡ reads (went s e o))
at_state z s (Reading.went e o) f h = (e, o, refl, sym cc)
at_state z s (Reading.stopped at) f h = absurd (f tt)
at_state z s (Reading.too_deep at) f h = absurd (f tt)

pub going : FirstFaults → (settings : Settings) (start base : ℕ) (bytes more : List ℕ) (s : LexState) (old new : Known) (p : Progress) → base ≡ start + length bytes → base + length more < 2 ^ 64
    → IsReadTo settings start bytes (Going s) old → GoesOn old (lex s 0 more) (read_marks old.depth (lex s 0 more).marks old.reading) base p new → IsReadTo settings start (bytes ++ more) p new
going first_fault settings start base bytes more s old new p at fits h goes =
    let a = at_state (read_by settings.mark settings.depth start bytes) s old.reading h.of_use.1 h.outcome in
    let deep : old.depth ≡ settings.depth = h.of_use.0.depth_is in
    record {
      outcome =
          arrives first_fault settings.mark settings.depth start base (bytes ++ more) more s a.0 a.1 old new p
          (goes_on_by settings.mark settings.depth start bytes more (went s a.0 a.1) a.3 ∙ ap (λ (i : ℕ). reads (read settings.depth s a.0 a.1 i more)) (sym at))
          (omega (arith, at, fits, length-append bytes more)) deep a.2 goes;
      of_use = subst (λ (d : ℕ). IsOfUse p settings.mark d new) deep (goes.of_use settings.mark);
    }

-- no byte behind a fault changes anything
over : (settings : Settings) (start : ℕ) (bytes more : List ℕ) (r : TextReading) → ((f : LexState → Expect → List Holder → TextReading) → and_then r f ≡ r)
    → Some (reads r) ≡ Some (read_by settings.mark settings.depth start bytes) → Some (reads r) ≡ Some (read_by settings.mark settings.depth start (bytes ++ more))
over settings start bytes more r stays h =
    let here : read_by settings.mark settings.depth start bytes ≡ reads r = sym cc in
    ap (λ (z : Outcome). Some z) (sym (goes_on_by settings.mark settings.depth start bytes more r here ∙ ap reads (stays _)))

pub passed : (settings : Settings) (start : ℕ) (bytes more : List ℕ) (z : Option Outcome) → is_fault z ≡ true → z ≡ Some (read_by settings.mark settings.depth start bytes)
    → z ≡ Some (read_by settings.mark settings.depth start (bytes ++ more))
passed settings start bytes more (Some (reads (stopped at))) f h = over settings start bytes more (stopped at) (λ g. refl) h
passed settings start bytes more (Some (reads (too_deep at))) f h = over settings start bytes more (too_deep at) (λ g. refl) h
passed settings start bytes more (Some (reads (went s e o))) f h = absurd cc
passed settings start bytes more (Some (in_front n)) f h = absurd cc
passed settings start bytes more None f h = absurd cc

-- ---- behind the first bytes of a mark

pub at_front : (limit start n : ℕ) (bytes : List ℕ) → read_by on_mark.Ignored limit start bytes ≡ in_front n → (agreed bytes byte_order_mark ≡ length bytes) × (length bytes ≡ n)
at_front limit start n bytes is = go (cases (agreed bytes byte_order_mark) (length bytes) (agreed_short bytes byte_order_mark))
  where
    go : Case (agreed bytes byte_order_mark) (length bytes) → (agreed bytes byte_order_mark ≡ length bytes) × (length bytes ≡ n)
    go (whole e) = let here : in_front n ≡ reads (read_text limit (start + 3) (drop 3 bytes)) = sym is ∙ by_whole (agreed bytes byte_order_mark) limit start bytes e in absurd cc
    go (part other e) =
        let here : in_front (agreed bytes byte_order_mark) ≡ in_front n = sym (by_part (agreed bytes byte_order_mark) limit start bytes other e) ∙ is in
        let same : agreed bytes byte_order_mark ≡ n = cc in
        (e, sym e ∙ same)
    go (none e some) = let here : in_front n ≡ reads (read_text limit start bytes) = sym is ∙ by_none (agreed bytes byte_order_mark) limit start bytes e some in absurd cc
    go (cut other some less) =
        let here : in_front n ≡ reads (stopped (start + agreed bytes byte_order_mark)) = sym is ∙ by_cut (agreed bytes byte_order_mark) limit start bytes other some less in absurd cc

-- the slice from an offset on is what stands there in all bytes
rest_behind : (bytes slice : List ℕ) (k : ℕ) → slice_range slice k (length slice) ≡ drop (length bytes + k) (bytes ++ slice)
rest_behind bytes slice k =
    take_all (length slice - k) (drop k slice) (let e : length (drop k slice) ≡ length slice - k = length-drop k slice in omega arith)
    ∙ sym (drop-append-add bytes slice k)

module _ (settings : Settings) (start base n count : ℕ) (bytes slice : List ℕ) (old : Known) (cut : n < 3) (at : base ≡ start + length bytes) (h : IsReadTo settings start bytes (Front n) old)
    (counts : count ≡ n + agreed slice (drop n byte_order_mark)) where
  facts : (agreed bytes byte_order_mark ≡ length bytes) × (length bytes ≡ n)
  facts =
      let is : Some (in_front n) ≡ Some (read_by on_mark.Ignored settings.depth start bytes) = h.outcome ∙ ap (λ (m : FrontMark). Some (read_by m settings.depth start bytes)) h.of_use.ignored in
      at_front settings.depth start n bytes (let same : in_front n ≡ read_by on_mark.Ignored settings.depth start bytes = cc in sym same)

  now : agreed (bytes ++ slice) byte_order_mark ≡ count
  now =
      let long = facts.1 in
      agreed_behind bytes slice facts.0 (omega (arith, long, cut)) ∙ ap (λ (k : ℕ). k + agreed slice (drop k byte_order_mark)) long ∙ sym counts

  all : length (bytes ++ slice) ≡ n + length slice
  all = length-append bytes slice ∙ ap (λ k. k + length slice) facts.1

  by : (z : Outcome) → read_behind count settings.depth start (bytes ++ slice) ≡ z → read_by settings.mark settings.depth start (bytes ++ slice) ≡ z
  by z is = ap (λ (m : FrontMark). read_by m settings.depth start (bytes ++ slice)) h.of_use.ignored ∙ ap (λ k. read_behind k settings.depth start (bytes ++ slice)) now ∙ is

  begun : FirstFaults → (k : ℕ) (new : Known) (p : Progress) → base + length slice < 2 ^ 64 → read_by settings.mark settings.depth start (bytes ++ slice) ≡ reads (read_text settings.depth (base + k) (slice_range slice k (length slice)))
      → GoesOn old (lex state.Gap 0 (slice_range slice k (length slice))) (read_marks old.depth (lex state.Gap 0 (slice_range slice k (length slice))).marks old.reading) (base + k) p new → IsReadTo settings start (bytes ++ slice) p new
  begun first_fault k new p fits text goes =
      record {
        outcome =
            arrives first_fault settings.mark settings.depth start (base + k) (bytes ++ slice) (slice_range slice k (length slice)) state.Gap expect.Value [] old new p text
            (let long = facts.1 in omega (arith, at, all, long, fits)) h.of_use.depth_is h.of_use.read goes;
        of_use = subst (λ (d : ℕ). IsOfUse p settings.mark d new) h.of_use.depth_is (goes.of_use settings.mark);
      }

  pub begun_behind : FirstFaults → (k : ℕ) (new : Known) (p : Progress) → base + length slice < 2 ^ 64 → count ≡ 3 → k ≡ count - n
      → GoesOn old (lex state.Gap 0 (slice_range slice k (length slice))) (read_marks old.depth (lex state.Gap 0 (slice_range slice k (length slice))).marks old.reading) (base + k) p new → IsReadTo settings start (bytes ++ slice) p new
  begun_behind first_fault k new p fits three is goes =
      let long = facts.1 in
      let behind : length bytes + k ≡ 3 = omega (arith, long, three, is, cut) in
      let from : start + 3 ≡ base + k = omega (arith, behind, at) in
      begun first_fault k new p fits
      (by _ (by_whole count settings.depth start (bytes ++ slice) three)
      ∙ ap (λ i. reads (read_text settings.depth i (drop 3 (bytes ++ slice)))) from
      ∙ ap (λ t. reads (read_text settings.depth (base + k) t)) (ap (λ i. drop i (bytes ++ slice)) (sym behind) ∙ sym (rest_behind bytes slice k))) goes

  pub begun_bare : FirstFaults → (new : Known) (p : Progress) → base + length slice < 2 ^ 64 → count ≡ 0 → 0 < length slice
      → GoesOn old (lex state.Gap 0 slice) (read_marks old.depth (lex state.Gap 0 slice).marks old.reading) base p new → IsReadTo settings start (bytes ++ slice) p new
  begun_bare first_fault new p fits bare some goes =
      let long = facts.1 in
      let empty : length bytes ≡ 0 = omega (arith, long, bare, counts) in
      let from : start ≡ base = omega (arith, at, empty) in
      record {
        outcome =
            arrives first_fault settings.mark settings.depth start base (bytes ++ slice) slice state.Gap expect.Value [] old new p
            (by _ (by_none count settings.depth start (bytes ++ slice) bare (omega (arith, all, some)))
            ∙ ap (λ i. reads (read_text settings.depth i (bytes ++ slice))) from
            ∙ ap (λ t. reads (read_text settings.depth base (t ++ slice))) (no_bytes bytes empty))
            (omega (arith, at, all, long, fits)) h.of_use.depth_is h.of_use.read goes;
        of_use = subst (λ (d : ℕ). IsOfUse p settings.mark d new) h.of_use.depth_is (goes.of_use settings.mark);
      }
    where
      no_bytes : (xs : List ℕ) → length xs ≡ 0 → xs ≡ []
      no_bytes [] e = refl
      no_bytes (x ∷ xs) e = absurd (omega (arith, e))

-- ---- the start

pub at_start : (settings : Settings) (start : ℕ) (k : Known) → settings.mark ≡ on_mark.Refused → k.depth ≡ settings.depth → StackHasRead [] k → IsReadTo settings start [] (Going state.Gap) k
unfolding read lex
at_start settings start k is deep h =
    record {
      outcome =
          ap (λ (q : Reading). Some (reads (at_exit (lexical.state state.Gap) q))) h
          ∙ ap (λ (m : FrontMark). Some (read_by m settings.depth start [])) (sym is);
      of_use = (record { depth_is = deep; marks = []; read = h }, λ fault. subst IsFault h fault);
    }

-- ---- the depth

-- a stack that has read this far reads within the depth of the settings
pub depth_within : (settings : Settings) (start : ℕ) (bytes : List ℕ) (p : Progress) (k : Known) → IsReadTo settings start bytes p k → k.depth ≡ settings.depth
depth_within settings start bytes (Front n) k h = h.of_use.depth_is
depth_within settings start bytes (Going s) k h = h.of_use.0.depth_is
depth_within settings start bytes (Stopped at) k h = h.of_use.depth_is
depth_within settings start bytes (TooDeep at) k h = h.of_use.depth_is
depth_within settings start bytes Failed k h = let came = h.outcome in absurd (cc)

-- ---- verdicts

-- a text of no byte is cut short
cut_early : TokensAreRead → (s : Settings) (start : ℕ) (bytes : List ℕ) → length bytes ≡ 0 → JudgedBy s start bytes (verdict.Refused refusal.Truncated)
unfolding read lex
cut_early law s start [] e = judged_other law s start [] (λ x h. cc) _ (verdict_law law s.depth start [])
cut_early law s start (b ∷ bytes) e = absurd (omega (arith, e))

abbrev Says : Settings → ℕ → List ℕ → Outcome → Type 0
Says s start bytes z = JudgedBy s start bytes (verdict_on z)

pub judged_read : TokensAreRead → (s : Settings) (start : ℕ) (bytes : List ℕ) → JudgedBy s start bytes (verdict_on (read_by s.mark s.depth start bytes))
judged_read law s start bytes = by_mark s.mark refl
  where
    n : ℕ
    n = agreed bytes byte_order_mark

    told_at : (x y z : Bool) → (n == 0) ≡ x → (n == 3) ≡ y → (n == length bytes) ≡ z
        → IsToldFrom start on_mark.Ignored bytes (cond x (seen.Skip 0) (cond y (seen.Skip 3) (cond z (seen.Refused refusal.Truncated) (seen.Refused (refusal.Stopped n)))))
    told_at x y z e f g =
        subst (λ t. IsToldFrom start on_mark.Ignored bytes (cond x (seen.Skip 0) (cond y (seen.Skip 3) (cond t (seen.Refused refusal.Truncated) (seen.Refused (refusal.Stopped n)))))) g
        (subst (λ t. IsToldFrom start on_mark.Ignored bytes (cond x (seen.Skip 0) (cond t (seen.Skip 3) (cond (n == length bytes) (seen.Refused refusal.Truncated) (seen.Refused (refusal.Stopped n)))))) f
        (subst (λ t. IsToldFrom start on_mark.Ignored bytes (cond t (seen.Skip 0) (cond (n == 3) (seen.Skip 3) (cond (n == length bytes) (seen.Refused refusal.Truncated) (seen.Refused (refusal.Stopped n)))))) e
        (told_from law start on_mark.Ignored bytes)))

    in_part : s.mark ≡ on_mark.Ignored → (n ≡ 3 → ⊥) → n ≡ length bytes → JudgedBy s start bytes (verdict.Refused refusal.Truncated)
    in_part is other e = pick (n == 0) refl
      where
        pick : (x : Bool) → (n == 0) ≡ x → JudgedBy s start bytes (verdict.Refused refusal.Truncated)
        pick true q = let zero_is : n ≡ 0 = grind (arith, nat_tests) in cut_early law s start bytes (omega (arith, zero_is, e))
        pick false q = told_at false false true q (grind (arith, nat_tests)) (grind (arith, nat_tests)) s is

    go : s.mark ≡ on_mark.Ignored → Case n (length bytes) → Says s start bytes (read_behind n s.depth start bytes)
    go is (whole e) =
        let told = told_at false true (n == length bytes) (grind (arith, nat_tests)) (grind (arith, nat_tests)) refl in
        subst (Says s start bytes) (sym (by_whole n s.depth start bytes e)) (told.1 s _ is (verdict_law law s.depth (start + 3) (drop 3 bytes)))
    go is (part other e) = subst (Says s start bytes) (sym (by_part n s.depth start bytes other e)) (in_part is other e)
    go is (none e some) =
        let told = told_at true (n == 3) (n == length bytes) (grind (arith, nat_tests)) refl refl in
        let at : start ≡ start + 0 = omega arith in
        subst (Says s start bytes) (sym (by_none n s.depth start bytes e some)) (told.1 s _ is (subst (λ i. Judged i bytes s.depth (verdict_of (read_text s.depth start bytes))) at (verdict_law law s.depth start bytes)))
    go is (cut other some less) =
        subst (Says s start bytes) (sym (by_cut n s.depth start bytes other some less)) (told_at false false false (grind (arith, nat_tests)) (grind (arith, nat_tests)) (grind (arith, nat_tests)) s is)

    by_mark : (m : FrontMark) → s.mark ≡ m → Says s start bytes (read_by m s.depth start bytes)
    by_mark on_mark.Refused is = refused_judged s start bytes is _ (verdict_law law s.depth start bytes)
    by_mark on_mark.Ignored is = go is (cases n (length bytes) (agreed_short bytes byte_order_mark))
