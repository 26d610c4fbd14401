-- What ends a text that was begun makes one of it.
use Rattle.std.proofs.Common.{◌≡◌, ℕ, ◌+◌, ◌≤◌, ◌<◌, List, [], ◌++◌, length, take, drop, refl, sym, ap, subst, ◌∙◌, arith}
use Rattle.std.specs.Prelude.{Some}
use Rattle.std.proofs.lemmas.List.{length-take-le, take_all, take-append-le, take-take}
use Rattle.std.proofs.lemmas.Option.{same_Some}
use Rattle.jx_lex.specs.declared.alphabet.state.LexState.{LexState}
use Rattle.jx_lex.specs.declared.alphabet.state.LexState.TheVariants as state
use Rattle.jx_reduce.specs.declared.table.expect.Expect.{Expect}
use Rattle.jx_reduce.specs.declared.table.expect.Expect.TheVariants as expect
use Rattle.jx_reduce.specs.declared.table.holder.Holder.{Holder}
use Rattle.jx_reduce.specs.KnownStack.{Known}
use Rattle.jx_reduce.specs.Read.{Reading}
use Rattle.jx_run.specs.Front.{agreed}
use Rattle.jx_run.specs.Laws.{verdict_on}
use Rattle.jx_run.specs.Reader.{Outcome, in_front, reads, read_by}
use Rattle.jx_run.specs.ReaderInside.{outcome_at, IsReadTo}
use Rattle.jx_run.specs.Reading.{TextReading, went, stopped, too_deep, read_text}
use Rattle.jx_run.specs.Settings.{byte_order_mark, BeginsBy, IsDocumentBy, JudgedBy}
use Rattle.jx_run.specs.Settings as by
use Rattle.jx_run.specs.Tree.{Tree}
use Rattle.jx_run.specs.declared.readers.progress.Progress.{Progress}
use Rattle.jx_run.specs.declared.readers.progress.Progress.TheVariants.{Front, Going, Stopped, TooDeep, Failed}
use Rattle.jx_run.specs.declared.texts.settings.FrontMark.{FrontMark}
use Rattle.jx_run.specs.declared.texts.settings.FrontMark.TheVariants as on_mark
use Rattle.jx_run.specs.declared.texts.settings.Settings.{Settings}
use Rattle.jx_run.specs.declared.texts.verdict.Refusal.TheVariants as refusal
use Rattle.jx_run.specs.declared.texts.verdict.Verdict.{Verdict}
use Rattle.jx_run.specs.declared.texts.verdict.Verdict.TheVariants.{Accepted, Refused}
use Rattle.jx_run.proofs.Completion.{completes, run-proper, Proper, ProperOutcome}
use Rattle.jx_run.proofs.Fronts.{agreed_short, all_of}
use Rattle.jx_run.proofs.Fused.{read-run}
use Rattle.jx_run.proofs.ReaderFeeds.{Case, cases, by_cut, by_none, by_part, by_whole, goes_on_by}
use Rattle.jx_run.proofs.ReaderFeeds as front
use Rattle.jx_complete.specs.Completed.{before_fault, IsCompleted, IsCutInMark}
use Rattle.jx_run.specs.inside.Closing.{completion}
use Rattle.jx_complete.specs.inside.Ended.{IsEnded, IsEndedMark}

-- ---- the open list holds containers alone

text_proper : (limit at : ℕ) (t : List ℕ) → ProperOutcome (read_text limit at t)
text_proper limit at t = subst ProperOutcome (sym (read-run limit state.Gap expect.Value [] at t)) (run-proper limit t state.Gap expect.Value [] at tt)

proper_by : (m : FrontMark) (limit start : ℕ) (bytes : List ℕ) (r : TextReading) → read_by m limit start bytes ≡ reads r → ProperOutcome r
proper_by on_mark.Refused limit start bytes r is = let same : read_text limit start bytes ≡ r = cc in subst ProperOutcome same (text_proper limit start bytes)
proper_by on_mark.Ignored limit start bytes r is = go (cases (agreed bytes byte_order_mark) (length bytes) (agreed_short bytes byte_order_mark))
  where
    go : Case (agreed bytes byte_order_mark) (length bytes) → ProperOutcome r
    go (front.whole e) =
        let here : reads (read_text limit (start + 3) (drop 3 bytes)) ≡ reads r = sym (by_whole (agreed bytes byte_order_mark) limit start bytes e) ∙ is in
        let same : read_text limit (start + 3) (drop 3 bytes) ≡ r = cc in
        subst ProperOutcome same (text_proper limit (start + 3) (drop 3 bytes))
    go (front.part other e) = let here : in_front (agreed bytes byte_order_mark) ≡ reads r = sym (by_part (agreed bytes byte_order_mark) limit start bytes other e) ∙ is in absurd cc
    go (front.none e some) =
        let here : reads (read_text limit start bytes) ≡ reads r = sym (by_none (agreed bytes byte_order_mark) limit start bytes e some) ∙ is in
        let same : read_text limit start bytes ≡ r = cc in
        subst ProperOutcome same (text_proper limit start bytes)
    go (front.cut other some less) =
        let here : reads (stopped (start + agreed bytes byte_order_mark)) ≡ reads r = sym (by_cut (agreed bytes byte_order_mark) limit start bytes other some less) ∙ is in
        let same : stopped (start + agreed bytes byte_order_mark) ≡ r = cc in
        subst ProperOutcome same tt

-- ---- texts

-- what the law of the reader says of verdicts by settings
abbrev pub Verdicts : Type 0
Verdicts = (settings : Settings) (at : ℕ) (bytes : List ℕ) → JudgedBy settings at bytes (verdict_on (read_by settings.mark settings.depth at bytes))

accepted_text : (settings : Settings) (bytes : List ℕ) → JudgedBy settings 0 bytes Accepted → (tree : Tree) × IsDocumentBy settings 0 bytes tree
accepted_text settings bytes (by.a_text {tree = tree} d) = (tree, d)

completed_text : Verdicts → (settings : Settings) (bytes : List ℕ) (s : LexState) (e : Expect) (o : List Holder) → read_by settings.mark settings.depth 0 bytes ≡ reads (went s e o)
    → (tree : Tree) × IsDocumentBy settings 0 (bytes ++ completion s e o) tree
completed_text law settings bytes s e o is =
    let proper : Proper o = proper_by settings.mark settings.depth 0 bytes (went s e o) is in
    let there : read_by settings.mark settings.depth 0 (bytes ++ completion s e o) ≡ reads (went state.Gap expect.After []) =
    goes_on_by settings.mark settings.depth 0 bytes (completion s e o) (went s e o) is
    ∙ ap reads (read-run settings.depth s e o (0 + length bytes) (completion s e o) ∙ completes settings.depth s e o (0 + length bytes) proper) in
    let judged : JudgedBy settings 0 (bytes ++ completion s e o) Accepted =
    subst (λ (z : Outcome). JudgedBy settings 0 (bytes ++ completion s e o) (verdict_on z)) there (law settings 0 (bytes ++ completion s e o)) in
    accepted_text settings (bytes ++ completion s e o) judged

-- bytes behind which a reading stands are ended
pub ended : Verdicts → (settings : Settings) (bytes out : List ℕ) (p : Progress) (s : LexState) (stack : Known) (e : Expect) (o : List Holder) → IsReadTo settings 0 bytes p stack → p ≡ Going s
    → stack.reading ≡ Reading.went e o → out ≡ bytes ++ completion s e o → IsEnded settings bytes out
ended law settings bytes out p s stack e o h is reading new =
    let there : outcome_at (Going s) (Reading.went e o) ≡ Some (read_by settings.mark settings.depth 0 bytes) =
    sym (ap (λ (q : Progress). outcome_at q stack.reading) is ∙ ap (λ (r : Reading). outcome_at (Going s) r) reading) ∙ h.outcome in
    let text = completed_text law settings bytes s e o (sym (same_Some _ _ there)) in
    record { more = completion s e o; whole = new; tree = text.0; is_text = subst (λ (l : List ℕ). IsDocumentBy settings 0 l text.0) (sym new) text.1 }

-- ---- a byte order mark that is cut

in_mark : (m : FrontMark) (limit start n : ℕ) (bytes : List ℕ) → read_by m limit start bytes ≡ in_front n → n < 3 → IsEndedMark bytes
in_mark on_mark.Refused limit start n bytes is few = absurd cc
in_mark on_mark.Ignored limit start n bytes is few = go (cases (agreed bytes byte_order_mark) (length bytes) (agreed_short bytes byte_order_mark))
  where
    go : Case (agreed bytes byte_order_mark) (length bytes) → IsEndedMark bytes
    go (front.whole e) =
        let here : reads (read_text limit (start + 3) (drop 3 bytes)) ≡ in_front n = sym (by_whole (agreed bytes byte_order_mark) limit start bytes e) ∙ is in absurd cc
    go (front.part other e) =
        let here : in_front (agreed bytes byte_order_mark) ≡ in_front n = sym (by_part (agreed bytes byte_order_mark) limit start bytes other e) ∙ is in
        let same : agreed bytes byte_order_mark ≡ n = cc in
        record { few = omega (arith, e, same, few); begins = all_of bytes byte_order_mark e }
    go (front.none e some) = let here : reads (read_text limit start bytes) ≡ in_front n = sym (by_none (agreed bytes byte_order_mark) limit start bytes e some) ∙ is in absurd cc
    go (front.cut other some less) =
        let here : reads (stopped (start + agreed bytes byte_order_mark)) ≡ in_front n = sym (by_cut (agreed bytes byte_order_mark) limit start bytes other some less) ∙ is in absurd cc

pub ended_mark : (settings : Settings) (bytes : List ℕ) (p : Progress) (n : ℕ) (stack : Known) → IsReadTo settings 0 bytes p stack → p ≡ Front n → n < 3 → IsEndedMark bytes
ended_mark settings bytes p n stack h is few =
    let there : outcome_at (Front n) stack.reading ≡ Some (read_by settings.mark settings.depth 0 bytes) = sym (ap (λ (q : Progress). outcome_at q stack.reading) is) ∙ h.outcome in
    in_mark settings.mark settings.depth 0 n bytes (sym (same_Some _ _ there)) few

-- ---- bytes that begin a text have no fault

begun : (settings : Settings) (bytes : List ℕ) → BeginsBy settings bytes → BeginsBy settings (take (length bytes) bytes)
begun settings bytes b = subst (BeginsBy settings) (sym (take_all (length bytes) bytes (omega arith))) b

no_stop : (settings : Settings) (bytes : List ℕ) (at : ℕ) → BeginsBy settings bytes → JudgedBy settings 0 bytes (Refused (refusal.Stopped at)) → ⊥
no_stop settings bytes at b (by.stopped {k = k} none longest less deeper) = longest.greatest (length bytes) less (omega arith) (begun settings bytes b)

no_depth : (settings : Settings) (bytes : List ℕ) (at : ℕ) → BeginsBy settings bytes → JudgedBy settings 0 bytes (Refused (refusal.TooDeep at)) → ⊥
no_depth settings bytes at b (by.too_deep {k = k} none longest less deeper) = longest.greatest (length bytes) less (omega arith) (begun settings bytes b)

judged_at : Verdicts → (settings : Settings) (bytes : List ℕ) (z : Outcome) → read_by settings.mark settings.depth 0 bytes ≡ z → JudgedBy settings 0 bytes (verdict_on z)
judged_at law settings bytes z is = subst (λ (o : Outcome). JudgedBy settings 0 bytes (verdict_on o)) is (law settings 0 bytes)

pub never_stopped : Verdicts → (settings : Settings) (bytes : List ℕ) (p : Progress) (at : ℕ) (stack : Known) → BeginsBy settings bytes → IsReadTo settings 0 bytes p stack → p ≡ Stopped at → ⊥
never_stopped law settings bytes p at stack b h is =
    let there : outcome_at (Stopped at) stack.reading ≡ Some (read_by settings.mark settings.depth 0 bytes) = sym (ap (λ (q : Progress). outcome_at q stack.reading) is) ∙ h.outcome in
    no_stop settings bytes at b (judged_at law settings bytes (reads (stopped at)) (sym (same_Some _ _ there)))

pub never_deep : Verdicts → (settings : Settings) (bytes : List ℕ) (p : Progress) (at : ℕ) (stack : Known) → BeginsBy settings bytes → IsReadTo settings 0 bytes p stack → p ≡ TooDeep at → ⊥
never_deep law settings bytes p at stack b h is =
    let there : outcome_at (TooDeep at) stack.reading ≡ Some (read_by settings.mark settings.depth 0 bytes) = sym (ap (λ (q : Progress). outcome_at q stack.reading) is) ∙ h.outcome in
    no_depth settings bytes at b (judged_at law settings bytes (reads (too_deep at)) (sym (same_Some _ _ there)))

pub never_failed : (settings : Settings) (bytes : List ℕ) (p : Progress) (stack : Known) → IsReadTo settings 0 bytes p stack → p ≡ Failed → ⊥
never_failed settings bytes p stack h is =
    let there : outcome_at Failed stack.reading ≡ Some (read_by settings.mark settings.depth 0 bytes) = sym (ap (λ (q : Progress). outcome_at q stack.reading) is) ∙ h.outcome in
    cc

-- ---- the bytes before the fault

-- they are bytes of the text, and begin one
pub record StandBefore (settings : Settings) (bytes : List ℕ) (k : ℕ) : Type 0 where
  pub within : k ≤ length bytes
  pub begins : BeginsBy settings (take k bytes)

pub stand_before : (settings : Settings) (bytes : List ℕ) (verdict : Verdict) → JudgedBy settings 0 bytes verdict → (verdict ≡ Accepted → ⊥) → StandBefore settings bytes (before_fault (length bytes) verdict)
stand_before settings bytes _ (by.a_text d) none = absurd (none refl)
stand_before settings bytes _ (by.cut_short other longest) none = record { within = longest.within; begins = longest.begins }
stand_before settings bytes _ (by.too_deep {k = k} other longest less deeper) none = subst (StandBefore settings bytes) (let e : k ≡ 0 + k = omega arith in e) (record { within = longest.within; begins = longest.begins })
stand_before settings bytes _ (by.stopped {k = k} other longest less deeper) none = subst (StandBefore settings bytes) (let e : k ≡ 0 + k = omega arith in e) (record { within = longest.within; begins = longest.begins })

pub completed : (settings : Settings) (bytes text : List ℕ) (kept : ℕ) (verdict : Verdict) → JudgedBy settings 0 bytes verdict → (verdict ≡ Accepted → ⊥) → kept ≡ before_fault (length bytes) verdict
    → kept ≤ length bytes → IsEnded settings (take kept bytes) text → IsCompleted settings bytes text kept
completed settings bytes text kept verdict judged none is within e =
    record {
      verdict = verdict;
      judged = judged;
      kept_is = is;
      tree = e.tree;
      is_text = e.is_text;
      begins =
          ap (take kept) e.whole ∙ take-append-le kept (take kept bytes) e.more (omega (arith, length-take-le kept bytes within)) ∙ take-take kept kept bytes (omega arith);
      whole = λ a. absurd (none a);
    }

pub cut_in_mark : (settings : Settings) (bytes : List ℕ) (kept : ℕ) (verdict : Verdict) → JudgedBy settings 0 bytes verdict → kept ≡ before_fault (length bytes) verdict → kept ≤ length bytes
    → IsEndedMark (take kept bytes) → IsCutInMark settings bytes
cut_in_mark settings bytes kept verdict judged is within e =
    let long : length (take kept bytes) ≡ kept = length-take-le kept bytes within in
    let few = e.few in
    record {
      verdict = verdict;
      judged = judged;
      few = omega (arith, few, long, is);
      begins = ap (λ (k : ℕ). take k bytes) (sym is) ∙ e.begins ∙ ap (λ (k : ℕ). take k byte_order_mark) (long ∙ is);
    }

pub all_of_it : (settings : Settings) (bytes text : List ℕ) (kept : ℕ) (verdict : Verdict) → JudgedBy settings 0 bytes verdict → verdict ≡ Accepted → kept ≡ before_fault (length bytes) verdict
    → text ≡ bytes → IsCompleted settings bytes text kept
all_of_it settings bytes text kept verdict judged accepted is same =
    let text_is = accepted_text settings bytes (subst (JudgedBy settings 0 bytes) accepted judged) in
    record {
      verdict = verdict;
      judged = judged;
      kept_is = is;
      tree = text_is.0;
      is_text = subst (λ (l : List ℕ). IsDocumentBy settings 0 l text_is.0) (sym same) text_is.1;
      begins = ap (take kept) same;
      whole = λ _. same;
    }
