-- A buffer of answers that is filled from its start.
use Rattle.std.proofs.Common.{◌≡◌, ℕ, zero, suc, ◌+◌, ◌<◌, ◌≤◌, List, [], ◌∷◌, Result, Ok, Err, Vec, Global, length, drop, get_or, set, Some, sym, ◌∙◌, subst, arith}
use mathlib.Core.Logic.{dite}
use native.Mathlib.Decide.{dec_lt}
use Rattle.std.specs.List.{AllZip}
use Rattle.std.specs.Prelude.{IfOk, MatchResult, min, slice_get}
use Rattle.std.proofs.lemmas.List.{drop-set-lt, get_or-set_other, get_or-set_same, length-set}
use Rattle.std.proofs.lemmas.Option.{get_or_from_slice_get, slice_get_within}
use Rattle.std.proofs.lemmas.Slice.Zip.{AllZip-long}
use Rattle.jx_run.specs.declared.texts.settings.Settings.{Settings}
use Rattle.jx_run.specs.declared.texts.verdict.Refusal.{Refusal}
use Rattle.jx_run.specs.declared.texts.verdict.Verdict.TheVariants.{Refused}
use Rattle.jx_index.specs.ByNames.{IsVerdictBy}
use Rattle.jx_index.specs.declared.find_fault.FindFault.{FindFault}
use Rattle.jx_index.specs.declared.finder.Found.{Found}
use Rattle.jx_index.specs.Found.{IsFoundBy}
use Rattle.jx_c.specs.Indexes.{AreAnswersOf, AreFound, IsReadFor}
use Rattle.jx_c.specs.LookUps.{AreFoundBy, IsAnswerOf, IsPointerOf, IsSpelt}
use Rattle.jx_c.specs.declared.texts.all.JxPointer.{JxPointer}
use Rattle.jx_c.specs.declared.texts.look_up.JxAnswer.{JxAnswer}

abbrev pub ReadOf : Type 0
ReadOf = Result (Vec (Result Found FindFault) Global) Refusal

-- so many are answered, and what stands behind them is as it was
pub record AreAnsweredTo (read : ReadOf) (pointers : List JxPointer) (n : ℕ) (old new : List JxAnswer) : Type 0 where
  pub long : length new ≡ length old
  pub told : (settings : Settings) (text : List ℕ) → IsReadFor settings text pointers read → (k : ℕ) (d : JxPointer) (e : JxAnswer) → k < n
      → IsAnswerOf settings text (get_or pointers k d).bytes.now (get_or new k e)
  pub rest : (k : ℕ) → n ≤ k → drop k new ≡ drop k old

module _ (read : ReadOf) (pointers : List JxPointer) (old new : List JxAnswer) where
  pub one_more : (n : ℕ) (pointer : JxPointer) (answer : JxAnswer) → n < length new → n < length pointers → ((d : JxPointer) → pointer ≡ get_or pointers n d)
      → ((settings : Settings) (text : List ℕ) → IsReadFor settings text pointers read → IsAnswerOf settings text pointer.bytes.now answer)
      → AreAnsweredTo read pointers n old new → AreAnsweredTo read pointers (n + 1) old (set new n answer)
  one_more n pointer answer room within is told h = record {
    long = length-set new n answer ∙ h.long;
    told = λ settings text x k d e below. dite (dec_lt k n)
        (λ (low : k < n). subst (λ (a : JxAnswer). IsAnswerOf settings text (get_or pointers k d).bytes.now a) (sym (get_or-set_other new n k answer e (omega arith)))
        (h.told settings text x k d e low))
        (λ high.
        let here : k ≡ n = omega arith in
        let same : pointer ≡ get_or pointers k d = subst (λ (j : ℕ). pointer ≡ get_or pointers j d) (sym here) (is d) in
        let put : get_or (set new n answer) k e ≡ answer = subst (λ (j : ℕ). get_or (set new n answer) j e ≡ answer) (sym here) (get_or-set_same new n answer e room) in
        subst (λ (p : JxPointer). IsAnswerOf settings text p.bytes.now (get_or (set new n answer) k e)) same
        (subst (λ (a : JxAnswer). IsAnswerOf settings text pointer.bytes.now a) (sym put) (told settings text x)));
    rest = λ k over. drop-set-lt k new n answer (omega arith) ∙ h.rest k (omega arith);
  }

  pub all_answered : (n : ℕ) → n ≡ min (length old) (length pointers) → AreAnsweredTo read pointers n old new → (settings : Settings) (text : List ℕ)
      → IsReadFor settings text pointers read → AreAnswersOf settings text pointers old new
  all_answered n e h settings text x = record {
    long = h.long;
    told = λ k pointer answer p a.
        let inside : k < length pointers = slice_get_within pointers k pointer p in
        let room : k < length new = slice_get_within new k answer a in
        let long : length new ≡ length old = h.long in
        let low : k < n = omega arith in
        subst (λ (q : JxPointer). IsAnswerOf settings text q.bytes.now answer) (get_or_from_slice_get pointers k pointer pointer p)
        (subst (λ (b : JxAnswer). IsAnswerOf settings text (get_or pointers k pointer).bytes.now b) (get_or_from_slice_get new k answer answer a)
        (h.told settings text x k pointer answer low));
    rest = λ k over. h.rest k (omega arith);
  }

-- ---- what was found in one pass

-- as many pointers as were given, each the one that is spelt there if one is
pub found_for : (settings : Settings) (text : List ℕ) (pointers : List JxPointer) (read : List (List ℕ)) (found : List (Result Found FindFault))
    → AllZip (λ (p : JxPointer). IsPointerOf p.bytes.now) pointers read → AreFoundBy settings text read found → AreFound settings text pointers found
found_for settings text [] [] [] h k = tt
found_for settings text [] [] (f ∷ found) h k = absurd k
found_for settings text [] (r ∷ read) found h k = absurd h
found_for settings text (p ∷ pointers) [] found h k = absurd h
found_for settings text (p ∷ pointers) (r ∷ read) [] h k = absurd k
found_for settings text (p ∷ pointers) (r ∷ read) (f ∷ found) h k = (
  λ spelt. subst (λ (w : List ℕ). IsFoundBy settings text w (Ok f)) (h.0 spelt) k.0,
  found_for settings text pointers read found h.1 k.1,
)

pub read_of : (settings : Settings) (text : List ℕ) (pointers : List JxPointer) (all : List (List ℕ)) (read : ReadOf) → AllZip (λ (p : JxPointer). IsPointerOf p.bytes.now) pointers all
    → MatchResult read (λ found. AreFoundBy settings text all found.items) (λ refusal. IsVerdictBy settings text (Refused refusal)) → IsReadFor settings text pointers read
read_of settings text pointers all (Ok found) h k = found_for settings text pointers all found.items h k
read_of settings text pointers all (Err refusal) h k = k

pub as_many : (settings : Settings) (text : List ℕ) (pointers : List JxPointer) (read : ReadOf) → IsReadFor settings text pointers read
    → IfOk read (λ all. length all.items ≡ length pointers)
as_many settings text pointers (Ok all) h = AllZip-long _ pointers all.items h
as_many settings text pointers (Err refusal) h = tt

-- what was found for the pointer at a place
pub found_at_place : (settings : Settings) (text : List ℕ) (pointers : List JxPointer) (found : List (Result Found FindFault)) (n : ℕ) (pointer : JxPointer) (one : Result Found FindFault)
    → AreFound settings text pointers found → slice_get pointers n ≡ Some pointer → slice_get found n ≡ Some one → IsSpelt pointer.bytes.now → IsFoundBy settings text pointer.bytes.now (Ok one)
found_at_place settings text [] found n pointer one h p f spelt = absurd cc
found_at_place settings text (q ∷ pointers) [] n pointer one h p f spelt = absurd cc
found_at_place settings text (q ∷ pointers) (x ∷ found) zero pointer one h p f spelt =
    let same : q ≡ pointer = cc in
    let there : x ≡ one = cc in
    subst (λ (y : Result Found FindFault). IsFoundBy settings text pointer.bytes.now (Ok y)) there
    (subst (λ (r : JxPointer). IsSpelt r.bytes.now → IsFoundBy settings text r.bytes.now (Ok x)) same h.0 spelt)
found_at_place settings text (q ∷ pointers) (x ∷ found) (suc n) pointer one h p f spelt = found_at_place settings text pointers found n pointer one h.1 p f spelt
