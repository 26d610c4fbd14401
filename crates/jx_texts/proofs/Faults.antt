-- The verdict on the bytes of a text so far: a fault stays, whatever follows.
use Rattle.std.proofs.Common.{◌≡◌, ℕ, ◌+◌, List, [], ◌∷◌, ◌++◌, filter, length, Bool, true, false, cond, Some, refl, sym, ap, subst, ◌∙◌, arith}
use Rattle.jx_lex.specs.declared.alphabet.state.LexState.{LexState}
use Rattle.jx_lex.specs.declared.alphabet.state.LexState.TheVariants as state
use Rattle.jx_reduce.specs.declared.table.expect.Expect.{Expect}
use Rattle.jx_reduce.specs.declared.table.expect.Expect.TheVariants as expect
use Rattle.jx_reduce.specs.declared.table.holder.Holder.{Holder}
use Rattle.jx_run.specs.declared.texts.verdict.Verdict.{Verdict}
use Rattle.jx_run.specs.declared.texts.verdict.Verdict.TheVariants.{Accepted, Refused}
use Rattle.jx_run.specs.declared.texts.verdict.Refusal.TheVariants.{Stopped, Truncated, TooDeep, RepeatedName}
use Rattle.jx_run.specs.declared.texts.settings.Settings.{Settings}
use Rattle.jx_run.specs.Laws.{is_end, verdict_of, verdict_on}
use Rattle.jx_run.specs.Settings.{JudgedBy}
use Rattle.jx_run.specs.Reader.{HasRead, ReaderValue, reads}
use Rattle.jx_run.specs.Reader as reader
use Rattle.jx_run.specs.Reading.{TextReading, went, stopped, too_deep, and_then, read, read_text}
use Rattle.jx_run.specs.Text.{IsDocument}
use Rattle.jx_run.specs.Tree.{Tree}
use Rattle.jx_run.specs.Verdict.{Judged, a_text}
use Rattle.jx_run.proofs.LawProofs.{Verdicts}
use Rattle.jx_run.proofs.RunJoin.{read-append}
use Rattle.jx_run.proofs.VerdictLaws.{one_verdict, one_verdict_by, tree_in}
use Rattle.jx_texts.specs.declared.judged_text.JudgedText.{JudgedText}
use Rattle.jx_texts.specs.Texts.{has_fault, is_fault, judged, last_text, read_to}
use Rattle.jx_texts.specs.Reading.{plain, text_now, verdict_now}
use Rattle.jx_texts.proofs.Lists.{clash}

-- ---- verdicts and texts

pub text_is_accepted : Verdicts → (limit from : ℕ) (bytes : List ℕ) (tree : Tree) → IsDocument from bytes limit tree → verdict_now limit from bytes ≡ Accepted
text_is_accepted law limit from bytes tree d = one_verdict from bytes limit (verdict_now limit from bytes) Accepted (law limit from bytes) (a_text d)

pub accepted_is_text : Verdicts → (limit from : ℕ) (bytes : List ℕ) → verdict_now limit from bytes ≡ Accepted → (tree : Tree) × IsDocument from bytes limit tree
accepted_is_text law limit from bytes e = tree_in (subst (λ (v : Verdict). Judged from bytes limit v) e (law limit from bytes))

-- ---- faults

went_well : (b : Bool) → is_fault (cond b Accepted (Refused Truncated)) ≡ false
went_well true = refl
went_well false = refl

-- a reader has met one
pub fault_is : (r : TextReading) → is_fault (verdict_of r) ≡ reader.is_fault (Some (reads r))
fault_is (went s e o) = went_well (is_end s e o)
fault_is (stopped at) = refl
fault_is (too_deep at) = refl

stays : (r : TextReading) (f : LexState → Expect → List Holder → TextReading) → is_fault (verdict_of r) ≡ true → and_then r f ≡ r
stays (went s e o) f h = clash h (went_well (is_end s e o))
stays (stopped at) f h = refl
stays (too_deep at) f h = refl

pub fault_stays : (limit from : ℕ) (bytes more : List ℕ) → is_fault (verdict_now limit from bytes) ≡ true → verdict_now limit from (bytes ++ more) ≡ verdict_now limit from bytes
fault_stays limit from bytes more h =
    ap verdict_of
    (read-append limit bytes more state.Gap expect.Value [] from (omega arith)
    ∙ stays (read_text limit from bytes) (λ s e o. read limit s e o (from + length bytes) more) h)

same_place : (v : Verdict) (m n : ℕ) → is_fault v ≡ true → read_to v m ≡ read_to v n
same_place Accepted m n h = absurd (cc)
same_place (Refused (Stopped at)) m n h = refl
same_place (Refused Truncated) m n h = absurd (cc)
same_place (Refused (TooDeep at)) m n h = refl
same_place (Refused (RepeatedName at)) m n h = absurd (cc)

pub same_text : (limit from : ℕ) (bytes more : List ℕ) → is_fault (verdict_now limit from bytes) ≡ true → text_now limit from (bytes ++ more) ≡ text_now limit from bytes
same_text limit from bytes more h =
    ap (λ (v : Verdict). last_text from (bytes ++ more) v) (fault_stays limit from bytes more h)
    ∙ ap (λ (n : ℕ). judged from n (verdict_now limit from bytes)) (same_place (verdict_now limit from bytes) (from + length (bytes ++ more)) (from + length bytes) h)

pub no_fault_of : (v : Verdict) → v ≡ Accepted → is_fault v ≡ true → ⊥
no_fault_of v e h = clash h (ap is_fault e)

-- what a reader of this depth has read
pub read_fault : (limit : ℕ) (bytes : List ℕ) (r : ReaderValue) → r.settings ≡ plain limit → HasRead bytes r → is_fault (verdict_now limit r.start bytes) ≡ reader.is_fault r.outcome
read_fault limit bytes r by h =
    fault_is (read_text limit r.start bytes)
    ∙ sym (ap reader.is_fault (h.outcome ∙ ap (λ s. Some (reader.read_by s.mark s.depth r.start bytes)) by))

-- those among the texts so far that have a fault
pub none_faulty : (told : JudgedText) → has_fault told ≡ false → filter has_fault (told ∷ []) ≡ []
none_faulty told h = ap (λ (b : Bool). cond b (told ∷ []) []) h

pub one_faulty : (told : JudgedText) → has_fault told ≡ true → filter has_fault (told ∷ []) ≡ told ∷ []
one_faulty told h = ap (λ (b : Bool). cond b (told ∷ []) []) h

-- ---- what a reader says

pub verdict_so_far : ((settings : Settings) (at : ℕ) (bytes : List ℕ) → JudgedBy settings at bytes (verdict_on (reader.read_by settings.mark settings.depth at bytes)))
    → (limit : ℕ) (bytes : List ℕ) (r : ReaderValue) (v : Verdict) → r.settings ≡ plain limit → JudgedBy r.settings r.start bytes v → v ≡ verdict_now limit r.start bytes
verdict_so_far law limit bytes r v by j =
    one_verdict_by (plain limit) r.start bytes v (verdict_now limit r.start bytes) (subst (λ (s : Settings). JudgedBy s r.start bytes v) by j) (law (plain limit) r.start bytes)

pub text_so_far : (limit : ℕ) (bytes : List ℕ) (r : ReaderValue) (v : Verdict) (start end : ℕ) → HasRead bytes r → v ≡ verdict_now limit r.start bytes → start ≡ r.start → end ≡ read_to v (r.start + r.count)
    → judged start end v ≡ text_now limit r.start bytes
text_so_far limit bytes r v start end h is from to =
    ap (λ (n : ℕ). judged n end v) from
    ∙ ap (λ (n : ℕ). judged r.start n v) (to ∙ ap (λ (n : ℕ). read_to v (r.start + n)) h.count)
    ∙ ap (λ (w : Verdict). last_text r.start bytes w) is

-- the text so far is told where it has a fault
pub told_so_far : (limit : ℕ) (bytes : List ℕ) (r : ReaderValue) (t : JudgedText) → r.settings ≡ plain limit → HasRead bytes r → t ≡ text_now limit r.start bytes → reader.is_fault r.outcome ≡ true
    → t ∷ [] ≡ filter has_fault (text_now limit r.start bytes ∷ [])
told_so_far limit bytes r t by h is fault =
    ap (λ (u : JudgedText). u ∷ []) is ∙ sym (one_faulty (text_now limit r.start bytes) (read_fault limit bytes r by h ∙ fault))

pub untold_so_far : (limit : ℕ) (bytes : List ℕ) (r : ReaderValue) → r.settings ≡ plain limit → HasRead bytes r → reader.is_fault r.outcome ≡ false → [] ≡ filter has_fault (text_now limit r.start bytes ∷ [])
untold_so_far limit bytes r by h fault = sym (none_faulty (text_now limit r.start bytes) (read_fault limit bytes r by h ∙ fault))
