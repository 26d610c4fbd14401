-- The verdict of a run is the verdict on its bytes.
use Rattle.std.proofs.Common.{◌≡◌, ℕ, suc, List, [], ◌∷◌, ◌++◌, ◌+◌, ◌≤◌, length, Some, false, cond, refl, sym, ap, subst, ◌∙◌, arith}
use Rattle.std.specs.Prelude.{◌==◌}
use Rattle.std.proofs.lemmas.Bool.Decides.{nat_tests}
use Rattle.jx_lex.specs.declared.alphabet.lex_exit.LexExit.{LexExit}
use Rattle.jx_lex.specs.declared.alphabet.lex_exit.LexExit.TheVariants as exit
use Rattle.jx_lex.specs.declared.alphabet.state.LexState.{LexState}
use Rattle.jx_lex.specs.declared.alphabet.state.LexState.TheVariants as state
use Rattle.jx_lex.specs.Exit.{exit_of}
use Rattle.jx_reduce.specs.declared.table.expect.Expect.{Expect}
use Rattle.jx_reduce.specs.declared.table.expect.Expect.TheVariants as expect
use Rattle.jx_reduce.specs.declared.table.holder.Holder.{Holder}
use Rattle.jx_reduce.specs.Read.{Reading}
use Rattle.jx_reduce.specs.Structure.{EntryValue, answer, answer_from}
use Rattle.jx_reduce.specs.Whole.{whole_of}
use Rattle.jx_run.specs.declared.texts.verdict.Verdict.TheVariants as verdict
use Rattle.jx_run.specs.declared.texts.verdict.Refusal.TheVariants as refusal
use Rattle.jx_run.specs.Laws.{is_end, verdict_of}
use Rattle.jx_run.specs.Reading.{at_exit, and_then, read}
use Rattle.jx_run.specs.OutcomeRun.{OutcomeRunValue, Entries, entries_at, exit_at, exit_in, outcome, outcome_in, outcome_of, GoesOn, IsOutcomeRun}
use Rattle.jx_run.specs.Verdict.{Judged}
use Rattle.jx_run.specs.Whole.{ends_text, verdict_from}
use Rattle.jx_run.proofs.LawProofs.{Verdicts}
use Rattle.jx_run.proofs.RunJoin.{and_then-same, read-append, read-within}

open_none : (s : LexState) (e : Expect) (h : Holder) (o : List Holder) → is_end s e (h ∷ o) ≡ false
open_none s expect.After h o = refl
open_none s expect.Value h o = refl
open_none s _ h o = refl

not_none : (n : ℕ) → (suc n == 0) ≡ false
not_none n = grind (arith, nat_tests)

end_is : (s : LexState) (e : Expect) (o : List Holder) → is_end s e o ≡ ends_text s e (length o)
end_is s e [] = refl
end_is s e (h ∷ o) = open_none s e h o ∙ sym (ap (λ b. cond b (is_end s e []) false) (not_none (length o)))

pub same_verdict : (x : LexExit) (r : Reading) → verdict_of (at_exit (exit_of x) r) ≡ verdict_from x (whole_of r)
same_verdict (exit.State s) (Reading.went e o) = ap (λ b. cond b verdict.Accepted (verdict.Refused refusal.Truncated)) (end_is s e o)
same_verdict (exit.Fault at) (Reading.went e o) = refl
same_verdict (exit.State s) (Reading.stopped at) = refl
same_verdict (exit.Fault i) (Reading.stopped at) = refl
same_verdict (exit.State s) (Reading.too_deep at) = refl
same_verdict (exit.Fault i) (Reading.too_deep at) = refl

-- an entry, with where reading ends, comes to what reading comes to
pub entry_reads : (run : OutcomeRunValue) (s : LexState) (x : Expect) (e : Entries) → entries_at run s ≡ Some e → (v : EntryValue) → v ≡ record { structure = e.marks; expect = x }
    → (bytes : List ℕ) → IsOutcomeRun bytes run → (o : List Holder) → length o ≤ run.depth
    → at_exit (exit_at run s) (answer_from v o) ≡ read run.depth s x o run.start bytes
entry_reads run s x e is v same bytes h o short =
    ap (λ z. at_exit (exit_in z) (answer_from v o)) is
    ∙ ap (λ (v : EntryValue). at_exit (exit_of e.exit) (answer_from v o)) same
    ∙ sym (ap (λ z. outcome_in z x o) is)
    ∙ h.outcomes s x o short

pub run_judged : Verdicts → (run : OutcomeRunValue) (e : Entries) → entries_at run state.Gap ≡ Some e → (bytes : List ℕ) → IsOutcomeRun bytes run
    → Judged run.start bytes run.depth (verdict_from e.exit (whole_of (answer e.marks expect.Value [])))
run_judged verdict_law run e is bytes h =
    subst (Judged run.start bytes run.depth)
    (ap verdict_of (sym (h.outcomes state.Gap expect.Value [] (omega arith)) ∙ ap (λ z. outcome_in z expect.Value []) is) ∙ same_verdict e.exit (answer e.marks expect.Value []))
    (verdict_law run.depth run.start bytes)

-- the verdict on the bytes of two neighbours
pub judged_through : Verdicts → (l r : OutcomeRunValue) (e j : Entries) → entries_at l state.Gap ≡ Some e → GoesOn l.depth e r j → l.depth ≡ r.depth → l.end ≡ r.start
    → (xs ys : List ℕ) → IsOutcomeRun xs l → IsOutcomeRun ys r → Judged l.start (xs ++ ys) l.depth (verdict_from j.exit (whole_of (answer j.marks expect.Value [])))
judged_through verdict_law l r e j is goes deep mid xs ys h k =
    let none : 0 ≤ l.depth = omega arith in
    let here : r.start ≡ l.start + length xs = sym mid ∙ h.long in
    let same : outcome_of j expect.Value [] ≡ read l.depth state.Gap expect.Value [] l.start (xs ++ ys) =
    goes expect.Value [] none
    ∙ ap (λ z. and_then z (outcome r)) (sym (ap (λ z. outcome_in z expect.Value []) is) ∙ h.outcomes state.Gap expect.Value [] none)
    ∙ and_then-same l.depth (read l.depth state.Gap expect.Value [] l.start xs) (outcome r) _ (read-within l.depth xs state.Gap expect.Value [] l.start none)
    (λ s' e' o' w'. k.outcomes s' e' o' (subst (λ d. length o' ≤ d) deep w')
    ∙ ap (λ d. read d s' e' o' r.start ys) (sym deep)
    ∙ ap (λ i. read l.depth s' e' o' i ys) here)
    ∙ sym (read-append l.depth xs ys state.Gap expect.Value [] l.start none) in
    subst (Judged l.start (xs ++ ys) l.depth) (ap verdict_of (sym same) ∙ same_verdict j.exit (answer j.marks expect.Value [])) (verdict_law l.depth l.start (xs ++ ys))
