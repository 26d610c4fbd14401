-- The reader is the grammar.
use Rattle.std.proofs.Common.{◌≡◌, ℕ, suc, ◌≤◌, ◌<◌, max, List, [], ◌++◌, length, take, Bool, true, false, cond, drop, refl, sym, ap, subst, ◌∙◌, append_assoc, arith}
use Rattle.std.proofs.lemmas.List.{take-take, take-append-drop, take_all}
use Rattle.jx_lex.specs.declared.alphabet.state.LexState.{LexState}
use Rattle.jx_lex.specs.declared.alphabet.state.LexState.TheVariants as state
use Rattle.jx_lex.specs.TokenStates.{IsFinal, final_gap, final_zero, final_int, final_frac, final_exp}
use Rattle.jx_reduce.specs.declared.table.expect.Expect.{Expect}
use Rattle.jx_reduce.specs.declared.table.expect.Expect.TheVariants as expect
use Rattle.jx_reduce.specs.declared.table.holder.Holder.{Holder}
use Rattle.jx_run.specs.declared.texts.verdict.Verdict.TheVariants as verdict
use Rattle.jx_run.specs.declared.texts.verdict.Refusal.TheVariants as refusal
use Rattle.jx_run.specs.Reading.{TextReading, went, stopped, too_deep, and_then, is_final}
use Rattle.jx_run.specs.Tree.{Tree, depth}
use Rattle.jx_run.specs.Text.{Document, document, IsDocument, Begins}
use Rattle.jx_run.specs.Verdict.{IsLongestBeginning, IsNoText, Judged}
use Rattle.jx_run.specs.Verdict
use Rattle.jx_run.specs.Laws.{is_end, verdict_of}
use Rattle.jx_run.specs.inside.Closing.{completion}
use Rattle.jx_run.proofs.Fused.{run}
use Rattle.jx_run.proofs.FromGrammar.{value_goes, at_value, run-gaps, run-blanks, from, next, Goes}
use Rattle.jx_run.proofs.ToGrammar.{Accepted, accepted, rest_of, RestValue, a_value, at_bottom}
use Rattle.jx_run.proofs.Completion.{run-append, went-accepted}
use Rattle.jx_run.proofs.Lexical.{TokensAreRead}
use Rattle.jx_run.proofs.Endings.{Ending, goes_on, is_stopped, is_deep, ending}

-- a whole text starts between tokens, with a value expected and nothing open
abbrev pub start_run : ℕ → ℕ → List ℕ → TextReading
start_run limit at t = run limit state.Gap expect.Value [] at t

-- ---- acceptance

document_of : (limit : ℕ) (at : ℕ) (t : List ℕ) → RestValue limit [] at t → (tree : Tree) × IsDocument at t limit tree
document_of limit at t (a_value {tree = tree} bs v le (at_bottom cs)) = (tree, record { reads = document bs v cs; within = omega (arith, le) })

pub accepts→text : TokensAreRead → (limit at : ℕ) (t : List ℕ) → Accepted (start_run limit at t) → (tree : Tree) × IsDocument at t limit tree
accepts→text law limit at t acc = document_of limit at t (rest_of limit law t state.Gap expect.Value [] at acc (omega arith))

at_end : (limit : ℕ) (a : TextReading) (l : ℕ) → Goes limit a expect.After [] l [] → Accepted a
unfolding run
at_end limit a l g = subst Accepted (sym g.same) (accepted g.final)

document_accepts : TokensAreRead → (limit at : ℕ) (t : List ℕ) (tree : Tree) → Document at t tree → depth tree ≤ limit → Accepted (start_run limit at t)
document_accepts law limit at t tree (document bs v cs) le =
    at_end limit _ _ (from limit (run-gaps limit bs expect.Value []) (next limit (value_goes limit law v expect.Value at_value [] (omega arith)) (λ s f. run-blanks limit cs s f expect.After [])))

pub text→accepts : TokensAreRead → (limit at : ℕ) (t : List ℕ) (tree : Tree) → IsDocument at t limit tree → Accepted (start_run limit at t)
text→accepts law limit at t tree h = document_accepts law limit at t tree h.reads h.within

-- ---- beginnings

pub went→begins : TokensAreRead → (limit at : ℕ) (t : List ℕ) (s : LexState) (e : Expect) (o : List Holder) → start_run limit 0 t ≡ went s e o → Begins t limit
went→begins law limit at t s e o h =
    let r = accepts→text law limit 0 (t ++ completion s e o) (went-accepted limit t state.Gap s expect.Value e [] o 0 tt h) in
    record { more = completion s e o; tree = r.0; text = r.1 }

pub begins-front : (limit : ℕ) (p q : List ℕ) → Begins (p ++ q) limit → Begins p limit
begins-front limit p q b = record { more = q ++ b.more; tree = b.tree; text = subst (λ x. IsDocument 0 x limit b.tree) (append_assoc p q b.more) b.text }

pub begins-deeper : (d e : ℕ) (p : List ℕ) → d ≤ e → Begins p d → Begins p e
begins-deeper d e p le b = record { more = b.more; tree = b.tree; text = record { reads = b.text.reads; within = let w = b.text.within in omega (arith, w) } }

abbrev pub NoFault : TextReading → Type 0
NoFault (went s e o) = Unit {0}
NoFault (stopped at) = ⊥
NoFault (too_deep at) = ⊥

no_fault_then : (r : TextReading) (k : LexState → Expect → List Holder → TextReading) → Accepted (and_then r k) → NoFault r
no_fault_then (went s e o) k acc = tt
no_fault_then (stopped at) k acc = elim acc [ ]
no_fault_then (too_deep at) k acc = elim acc [ ]

pub begins→no_fault : TokensAreRead → (limit : ℕ) (t : List ℕ) → Begins t limit → NoFault (start_run limit 0 t)
begins→no_fault law limit t b =
    no_fault_then (start_run limit 0 t) _ (subst Accepted (run-append limit t b.more state.Gap expect.Value [] 0) (text→accepts law limit 0 (t ++ b.more) b.tree b.text))

begins-take : (limit m n : ℕ) (t : List ℕ) → m ≤ n → Begins (take n t) limit → Begins (take m t) limit
begins-take limit m n t le b =
    begins-front limit (take m t) (drop m (take n t))
    (subst (λ x. Begins x limit) (sym (ap (λ x. x ++ drop m (take n t)) (sym (take-take m n t le)) ∙ take-append-drop m (take n t))) b)

-- ---- the verdict

final_of : (s : LexState) → is_final s ≡ true → IsFinal s
final_of state.Gap h = final_gap
final_of state.Zero h = final_zero
final_of state.Int h = final_int
final_of state.Frac h = final_frac
final_of state.Exp h = final_exp
final_of _ h = absurd cc

pub end_accepts : (s : LexState) (e : Expect) (o : List Holder) → is_end s e o ≡ true → Accepted (went s e o)
end_accepts s expect.After [] h = accepted (final_of s h)
end_accepts s _ _ h = absurd cc

pub accepts_end : {s : LexState} {e : Expect} {o : List Holder} → Accepted (went s e o) → is_end s e o ≡ true
accepts_end (accepted final_gap) = refl
accepts_end (accepted final_zero) = refl
accepts_end (accepted final_int) = refl
accepts_end (accepted final_frac) = refl
accepts_end (accepted final_exp) = refl

module _ (law : TokensAreRead) (limit at : ℕ) (t : List ℕ) where
  no_text : (r : TextReading) → start_run limit at t ≡ r → (Accepted r → ⊥) → IsNoText at t limit
  no_text r h never tree x = never (subst Accepted h (text→accepts law limit at t tree x))

  whole : (s : LexState) (e : Expect) (o : List Holder) → start_run limit 0 t ≡ went s e o → IsLongestBeginning t limit (length t)
  whole s e o h = record { within = omega arith; begins = subst (λ x. Begins x limit) (sym (take_all (length t) t (omega arith))) (went→begins law limit 0 t s e o h); greatest = λ n lt le b. omega arith }

  pub up_to : (k : ℕ) → k < length t → (s : LexState) (e : Expect) (o : List Holder) → start_run limit 0 (take k t) ≡ went s e o
      → (NoFault (start_run limit 0 (take (suc k) t)) → ⊥) → IsLongestBeginning t limit k
  up_to k lt s e o h never =
      record {
        within = omega arith;
        begins = went→begins law limit 0 (take k t) s e o h;
        greatest = λ n lt' le b. never (begins→no_fault law limit (take (suc k) t) (begins-take limit (suc k) n t lt' b));
      }

  went_judged : (s : LexState) (e : Expect) (o : List Holder) → ((d at : ℕ) → limit ≤ d → run d state.Gap expect.Value [] at t ≡ went s e o)
      → Judged at t limit (verdict_of (went s e o))
  went_judged s e o h = pick (is_end s e o) refl
    where
      pick : (b : Bool) → is_end s e o ≡ b → Judged at t limit (cond b verdict.Accepted (verdict.Refused refusal.Truncated))
      pick true q = Verdict.a_text (accepts→text law limit at t (subst Accepted (sym (h limit at (omega arith))) (end_accepts s e o q))).1
      pick false q = Verdict.cut_short (no_text _ (h limit at (omega arith)) (λ acc. let x = accepts_end acc in cc)) (whole s e o (h limit 0 (omega arith)))

  pub judged : Judged at t limit (verdict_of (start_run limit at t))
  judged = by_ending (ending law limit t state.Gap expect.Value [])
    where
      by_ending : Ending limit state.Gap expect.Value [] t → Judged at t limit (verdict_of (start_run limit at t))
      by_ending (goes_on s e o h) = subst (λ r. Judged at t limit (verdict_of r)) (sym (h limit at (omega arith))) (went_judged s e o h)
      by_ending (is_stopped k lt s e o f g p) =
          subst (λ r. Judged at t limit (verdict_of r)) (sym (f at))
          (Verdict.stopped (no_text _ (f at) (λ acc. elim acc [ ]))
          (up_to k lt s e o (g limit 0 (omega arith)) (λ n. subst NoFault (p limit 0 (omega arith)) n))
          lt
          (λ d b. subst NoFault (p (max limit d) 0 (omega arith)) (begins→no_fault law (max limit d) (take (suc k) t) (begins-deeper d (max limit d) _ (omega arith) b))))
      by_ending (is_deep k lt s e o f g p d s2 e2 o2 le q) =
          subst (λ r. Judged at t limit (verdict_of r)) (sym (f at))
          (Verdict.too_deep (no_text _ (f at) (λ acc. elim acc [ ]))
          (up_to k lt s e o (g limit 0 (omega arith)) (λ n. subst NoFault (p 0) n))
          lt
          (went→begins law d 0 (take (suc k) t) s2 e2 o2 (q 0)))
