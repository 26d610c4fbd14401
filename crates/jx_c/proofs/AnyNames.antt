-- In a text that is accepted by settings, what is found whatever names its objects have is what is found by settings.
use Rattle.std.proofs.Common.{◌≡◌, ◌<◌, arith, length, List, ℕ, Vec, Global, [], ◌∷◌, Result, Ok, Err, ◌⊎◌, inl, inr, sym, subst}
use Rattle.std.specs.List.{AllZip}
use Rattle.std.specs.Prelude.{IfErr, IfOk, MatchResult, Some, slice_get}
use Rattle.std.specs.declared.alloc.AllocError.{AllocError}
use Rattle.jx_run.specs.declared.texts.settings.NameRule.{NameRule}
use Rattle.jx_run.specs.declared.texts.settings.NameRule.TheVariants.{Any}
use Rattle.jx_run.specs.declared.texts.settings.Settings.{Settings}
use Rattle.jx_run.specs.declared.texts.verdict.Refusal.{Refusal}
use Rattle.jx_run.specs.declared.texts.verdict.Verdict.{Verdict}
use Rattle.jx_run.specs.declared.texts.verdict.Verdict.TheVariants as verdict
use Rattle.jx_run.specs.Settings.{IsDocumentBy, JudgedBy, cut_short, stopped, too_deep}
use Rattle.jx_run.specs.Tree.{Tree}
use Rattle.jx_index.specs.declared.find_fault.FindFault.{FindFault}
use Rattle.jx_index.specs.declared.finder.Found.{Found}
use Rattle.jx_index.specs.ByNames.{IsVerdictBy, a_text, no_text, repeated_name}
use Rattle.jx_index.specs.Found.{AreFoundIn, IsFoundBy, found_of}
use Rattle.jx_index.specs.Leads.{led}
use Rattle.jx_index.specs.Pointers.{tokens}
use Rattle.jx_c.specs.LookUps.{AreFoundBy}
use Rattle.jx_c.specs.Opened.{any_names}

module _ (settings : Settings) (text : List ℕ) (known : (settings.names ≡ Any) ⊎ IsVerdictBy settings text verdict.Accepted) where
  with_names : (tree : Tree) → IsDocumentBy (any_names settings) 0 text tree → IsDocumentBy settings 0 text tree
  with_names tree d = record { front = d.front; rest = d.rest; is_front = d.is_front; whole = d.whole; text = d.text }

  without_names : (tree : Tree) → IsDocumentBy settings 0 text tree → IsDocumentBy (any_names settings) 0 text tree
  without_names tree d = record { front = d.front; rest = d.rest; is_front = d.is_front; whole = d.whole; text = d.text }

  same : settings.names ≡ Any → (v : Verdict) → IsVerdictBy (any_names settings) text v → IsVerdictBy settings text v
  same any v h = subst (λ (rule : NameRule). IsVerdictBy (record { depth = settings.depth; mark = settings.mark; names = rule }) text v) (sym any) h

  no_refusal : (tree : Tree) (refusal : Refusal) → IsDocumentBy (any_names settings) 0 text tree → JudgedBy (any_names settings) 0 text (verdict.Refused refusal) → ⊥
  no_refusal tree _ d (cut_short none long) = none tree d
  no_refusal tree _ d (too_deep none long inside deeper) = none tree d
  no_refusal tree _ d (stopped none long inside never) = none tree d

  none_refused : (refusal : Refusal) → IsVerdictBy settings text verdict.Accepted → IsVerdictBy (any_names settings) text (verdict.Refused refusal) → ⊥
  none_refused _ (a_text d h) (repeated_name e n) = absurd (cc)
  none_refused refusal (a_text {tree = tree} d h) (no_text judged) = no_refusal tree refusal (without_names tree d) judged

  refused : (refusal : Refusal) → IsVerdictBy (any_names settings) text (verdict.Refused refusal) → IsVerdictBy settings text (verdict.Refused refusal)
  refused refusal h = by known
    where
      by : (settings.names ≡ Any) ⊎ IsVerdictBy settings text verdict.Accepted → IsVerdictBy settings text (verdict.Refused refusal)
      by (inl any) = same any (verdict.Refused refusal) h
      by (inr accepted) = absurd (none_refused refusal accepted h)

  accepted : IsVerdictBy (any_names settings) text verdict.Accepted → IsVerdictBy settings text verdict.Accepted
  accepted h = by known
    where
      by : (settings.names ≡ Any) ⊎ IsVerdictBy settings text verdict.Accepted → IsVerdictBy settings text verdict.Accepted
      by (inl any) = same any verdict.Accepted h
      by (inr told) = told

  pub each_found : (tree : Tree) → IsDocumentBy settings 0 text tree → IsVerdictBy settings text verdict.Accepted → (pointers : List (List ℕ)) (found : List (Result Found FindFault))
      → AllZip (λ (pointer : List ℕ) (one : Result Found FindFault). one ≡ found_of (led text tree (tokens pointer))) pointers found → AreFoundBy settings text pointers found
  each_found tree d a [] [] h = tt
  each_found tree d a [] (f ∷ found) h = absurd h
  each_found tree d a (p ∷ pointers) [] h = absurd h
  each_found tree d a (p ∷ pointers) (f ∷ found) h = ((a, record { tree = tree; is_text = d; found_is = h.0 }), each_found tree d a pointers found h.1)

  all_by_any : (pointers : List (List ℕ)) (found : List (Result Found FindFault)) → IsVerdictBy (any_names settings) text verdict.Accepted
      → AreFoundIn (any_names settings) text pointers found → AreFoundBy settings text pointers found
  all_by_any pointers found told h = each_found h.tree (with_names h.tree h.is_text) (accepted told) pointers found h.found_are

  pub each_result : (pointers : List (List ℕ)) (r : Result (Result (Vec (Result Found FindFault) Global) Refusal) AllocError)
      → IfOk r (λ read. IfOk read (λ _. IsVerdictBy (any_names settings) text verdict.Accepted)) → IfOk r (λ read. IfOk read (λ found. AreFoundIn (any_names settings) text pointers found.items))
      → IfOk r (λ read. IfErr read (λ refusal. IsVerdictBy (any_names settings) text (verdict.Refused refusal)))
      → IfOk r (λ read. MatchResult read (λ found. AreFoundBy settings text pointers found.items) (λ refusal. IsVerdictBy settings text (verdict.Refused refusal)))
  each_result pointers (Ok (Ok found)) a h r = all_by_any pointers found.items a h
  each_result pointers (Ok (Err refusal)) a h r = refused refusal r
  each_result pointers (Err fault) a h r = tt

-- ---- one pointer

pub some_found : (settings : Settings) (text pointer : List ℕ) (found : List (Result Found FindFault)) → AreFoundBy settings text (pointer ∷ []) found → 0 < length found
some_found settings text pointer [] h = absurd h
some_found settings text pointer (one ∷ found) h = omega arith

pub first_found : (settings : Settings) (text pointer : List ℕ) (found : List (Result Found FindFault)) (one : Result Found FindFault) → AreFoundBy settings text (pointer ∷ []) found
    → slice_get found 0 ≡ Some one → IsFoundBy settings text pointer (Ok one)
first_found settings text pointer [] one h is = absurd h
first_found settings text pointer (x ∷ found) one h is =
    let same : x ≡ one = cc in
    subst (λ (y : Result Found FindFault). IsFoundBy settings text pointer (Ok y)) same h.0
